-- `say::pattern` meets its contract.
use Rattle.console_sentences.proofs.say.pattern.Goals as goal

pub returns-in-OtherAcceptance : goal.returns-in-OtherAcceptance
returns-in-OtherAcceptance c = rw c.in-OtherAcceptance.is c.item-in-OtherAcceptance.ensures

pub returns-in-Outside : goal.returns-in-Outside
returns-in-Outside c = rw c.in-Outside.is c.undeclared-in-Outside.ensures

pub returns-in-SecondEdge : goal.returns-in-SecondEdge
returns-in-SecondEdge c = rw c.in-SecondEdge.is

pub returns-in-NoEdge : goal.returns-in-NoEdge
returns-in-NoEdge c = rw c.in-NoEdge.is

pub returns-in-Dimensions : goal.returns-in-Dimensions
returns-in-Dimensions c = rw c.in-Dimensions.is

pub returns-in-SolverForm : goal.returns-in-SolverForm
returns-in-SolverForm c = rw c.in-SolverForm.is

pub returns-in-Literal : goal.returns-in-Literal
returns-in-Literal c = rw c.in-Literal.is

pub returns-in-NoStep : goal.returns-in-NoStep
returns-in-NoStep c = rw c.in-NoStep.is

pub returns-in-Differ : goal.returns-in-Differ
returns-in-Differ c = rw c.in-Differ.is

pub returns-in-Short : goal.returns-in-Short
returns-in-Short c = rw c.in-Short.is

pub returns-in-Propositions : goal.returns-in-Propositions
returns-in-Propositions c = rw c.in-Propositions.is
