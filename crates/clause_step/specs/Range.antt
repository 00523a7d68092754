-- The positions of every file lie in one range, and a step from a position in it leads to one in it.
use Rattle.std.specs.Prelude.{◌≡◌, refl, true, false, ℕ, ◌*◌, ◌^◌, ◌≤◌}
use Rattle.std.proofs.Common.{mul-le-mul, arith}
use Rattle.automaton.specs.declared.Automaton.{Automaton}
use Rattle.automaton.specs.Value.{Valid}
use Rattle.bits.specs.Powers.{power_le}
use Rattle.encoding.specs.Positions.{positions}
use Rattle.encoding.specs.Named.{first, task_for}
use Rattle.clause_sizes.specs.declared.Target.{Target}
use Rattle.clause_sizes.specs.Targets.{Proper, task, numbers}
use Rattle.clause_list.specs.Following.{position_of, next_le}
use Rattle.clause_step.specs.Step.{last_position, found_from}

-- the largest sizes have the largest position
pub largest_positions : positions (task_for (record { states = 16; letters = 16; sets = 4; start = 0; step = λ q l. 0; marks = λ q l i. false; accept = λ S. true }) (record { n = 8; m = 4; acceptance = 0; listing = first })) (λ x. 0)
    ≡ last_position
largest_positions = refl

pub positions_le : {a : Automaton} {τ : Target} → Valid a → Proper τ → positions (task a τ) (numbers a τ) ≤ last_position
positions_le {a} {τ} v t =
    let d = t.dimensioned in
    let n = τ.states in
    let m = τ.sets in
    let L : 2 ^ a.propositions ≤ 16 = power_le v.propositions_le in
    let M : 2 ^ m ≤ 16 = power_le d.m_le in
    let S : 2 ^ a.sets ≤ 16 = power_le v.sets_le in
    let square : n * n ≤ 64 = mul-le-mul d.n_le d.n_le in
    let third : n * n * n * a.states * a.states * 2 ^ a.propositions * 2 ^ m * 2 ^ a.sets * 2 ^ m ≤ 8_589_934_592 =
    mul-le-mul (mul-le-mul (mul-le-mul (mul-le-mul (mul-le-mul (mul-le-mul (mul-le-mul square d.n_le) v.states_le) v.states_le) L) M) S) M in
    let moves : n * n * a.states * 2 ^ a.propositions ≤ 16384 = mul-le-mul (mul-le-mul square v.states_le) L in
    let fourth : n * n * a.states * 2 ^ a.propositions * 2 ^ m * 2 ^ a.sets * 2 ^ m ≤ 67_108_864 = mul-le-mul (mul-le-mul (mul-le-mul moves M) S) M in
    let first : n * 2 ^ a.propositions ≤ 128 = mul-le-mul d.n_le L in
    omega arith

pub stays_in_range : {a : Automaton} {τ : Target} → Valid a → Proper τ → (x : ℕ) → x ≤ last_position
    → position_of (task a τ) (numbers a τ) (found_from a τ x) ≤ last_position
stays_in_range {a} {τ} v t x h = next_le (task a τ) (numbers a τ) last_position x (positions_le v t) h
