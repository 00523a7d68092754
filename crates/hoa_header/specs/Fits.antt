-- A header that is read keeps document 01's bounds.
use Rattle.std.proofs.Common.{subst}
use Rattle.std.specs.Prelude.{List, ℕ}
use Rattle.automaton.specs.declared.Automaton.{Automaton}
use Rattle.hoa_text.specs.Tokens.{tokens}
use Rattle.hoa_text.specs.Header.{header}
use Rattle.hoa_text.specs.HeaderFits.{HeaderFits, header_fits}
use Rattle.hoa_text.specs.Repetition.{Every}
use Rattle.hoa_header.specs.Answers.{Opened}

pub opened_fits : (s : List ℕ) (a : Automaton) (e : ℕ) (o : Opened s (header (tokens s)) a e) → HeaderFits o.header
opened_fits s a e o = subst (Every (λ y. HeaderFits y.0)) o.is (header_fits (tokens s))
