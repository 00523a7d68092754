-- A found table of the right size is judged by the comparison with the reference alone.
use Rattle.std.specs.Prelude.{Result, Ok, Err}
use Rattle.automaton.specs.declared.Automaton.{Automaton}
use Rattle.refusals.specs.declared.Refusal.{Refusal}
use Rattle.search_rule.specs.declared.Search.{Search}
use Rattle.search.specs.declared.Reply.{Reply}
use Rattle.search.specs.declared.Reply.TheVariants.{Taken}
use Rattle.search_rule.specs.Rule.{found}

abbrev pub judged : Search → Automaton → Result (Unit {0}) Refusal → Result Reply Refusal
judged s table (Ok same) = Ok (Taken (found table s))
judged s table (Err f) = Err f
