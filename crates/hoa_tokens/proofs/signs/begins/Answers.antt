-- `signs::begins` meets its contract.
use mathlib.Core.Path.{sym, ap, ◌∙◌}
use Rattle.std.proofs.lemmas.List.{take_rest}
use Rattle.std.specs.List.{starts_with}
use Rattle.std.specs.Prelude.{nat_eq}
use Rattle.hoa_tokens.proofs.Laws.{begins_taken}
use Rattle.hoa_tokens.proofs.signs.begins.Goals as goal

pub returns : goal.returns
returns c =
    let text = c.args.text.now in
    c.starts_with.ensures.value ∙ ap (λ s. starts_with nat_eq s c.args.word.now) (take_rest text c.args.at) ∙ sym (begins_taken c.args.word.now _)
