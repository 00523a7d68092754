-- A value in "The automaton" has at most 16 letters.
use Rattle.std.specs.Prelude.{◌≤◌}
use Rattle.bits.specs.Powers.{power_le}
use Rattle.automaton.specs.declared.Automaton.{Automaton}
use Rattle.automaton.specs.Value.{Valid, letters}

pub letters_le : {a : Automaton} → Valid a → letters a ≤ 16
letters_le v = power_le v.propositions_le
