-- Document 01, 'What the statements must pin': of two outcomes that one statement says equal to the same definition, each is the other.
use Rattle.std.specs.Prelude.{◌≡◌}
use Rattle.std.proofs.Common.{sym, ◌∙◌}

pub pinned : {A : Type 0} {one other stated : A} → one ≡ stated → other ≡ stated → one ≡ other
pinned p q = p ∙ sym q
