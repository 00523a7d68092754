-- `Automaton::valid` meets its contract.
use mathlib.Core.Path.{sym, ◌∙◌}
use Rattle.automaton.specs.Meant.{fits_valid, valid_fits}
use borrow.Author.Rules.{rules}
use Rattle.automaton.proofs.Automaton.valid.Goals as goal

pub returns : goal.returns
returns c = (
  λ e. fits_valid c.args.self (search rules) (search rules) (search rules) (search rules) (sym c.fits.ensures ∙ e),
  λ v. c.fits.ensures ∙ valid_fits c.args.self v,
)
