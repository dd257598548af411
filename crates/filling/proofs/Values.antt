-- A result that can be no error has a value: cited where text is made of a name.
use Rattle.std.specs.Result.{MatchResult, is_ok}
use Rattle.std.proofs.Common.{◌≡◌, true, refl, Result, Ok, Err}

pub is_value : {T E : Type 0} (r : Result T E) (P : T → Type 0) (Q : E → Type 0) → MatchResult r P Q → ((e : E) → Q e → ⊥) → is_ok r ≡ true
is_value (Ok x) P Q m never = refl
is_value (Err e) P Q m never = absurd (never e m)
