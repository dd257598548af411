-- A name is ASCII, and so it is text.
use Rattle.std.proofs.lemmas.Str.{IsUtf8-from_ascii}
use Rattle.filling.proofs.Values.{is_value}
use Rattle.filling.proofs.names.Name.as_str.Goals as goal

pub unwrap-requires : goal.unwrap-requires
unwrap-requires c =
    is_value c.from_utf8.result _ _ c.from_utf8.ensures.cases (λ _ bad. bad.0 (IsUtf8-from_ascii _ c.args.self.now.ascii))
