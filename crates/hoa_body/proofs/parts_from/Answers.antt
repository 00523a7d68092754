-- `parts_from` meets its contract.
use mathlib.Core.Path.{subst}
use Rattle.std.proofs.Common.{Ok}
use Rattle.hoa_body.specs.Parts.{PartAnswer}
use Rattle.hoa_body.proofs.OpenedLaws.{letters_are}
use Rattle.hoa_body.proofs.BodyLaws.{not_turned, turned, turned_ended}
use Rattle.hoa_body.proofs.parts_from.Goals as goal

pub loop-state-init : goal.loop-state-init
loop-state-init c = (c.no_states-table.ensures.1, λ h o. not_turned h _ _ _ (c.no_states-table.ensures.0 h o))

pub loop-state-preserved-in-State : goal.loop-state-preserved-in-State
loop-state-preserved-in-State c =
    let p = subst (λ x. PartAnswer c.args.text.now c.loop-state.i c.args.opened c.loop-state.table (Ok x)) c.in-State.is c.in_ok-state.ensures in (
      c.with_state-table.ensures.1,
      λ h o.
          let x = c.loop-state.invariant.1 h o in
          turned h _ _ _ _ x _ _ _ (p.means h x.table o x.holds) (c.with_state-table.ensures.0 h x.table x.holds),
    )

pub loop-state-preserved : goal.loop-state-preserved
loop-state-preserved c =
    let p = subst (λ x. PartAnswer c.args.text.now c.loop-state.i c.args.opened c.loop-state.table (Ok x)) c.in-Edge.is c.in_ok-state.ensures in (
      c.with_edge-table.ensures.1,
      λ h o.
          let x = c.loop-state.invariant.1 h o in
          let y = p.means h x.table o x.holds in
          turned h _ _ _ _ x _ _ _ y.is
          (c.with_edge-table.ensures.0 h x.table y.for (letters_are c.args.opened h o _ c.requires c.power_of_two-letters.ensures.is) y.letters x.holds),
    )

pub returns-in-End : goal.returns-in-End
returns-in-End c =
    let p = subst (λ x. PartAnswer c.args.text.now c.loop-state.i c.args.opened c.loop-state.table (Ok x)) c.in-End.is c.in_ok-state.ensures in
    λ h o. let x = c.loop-state.invariant.1 h o in turned_ended h _ _ _ _ x _ (p.means h x.table o x.holds)
