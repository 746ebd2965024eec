-- How many entries and marks a count makes: its own entry, and those of the counter's alarms and tables that act.
use Rattle.std.proofs.Common.{◌≤◌, ◌+◌, ◌*◌, ℕ, suc, arith}

pub fewer-entries : (expired passed alarms tables : ℕ) → expired ≤ alarms → passed ≤ tables → 1 + 3 * expired + 38 * passed ≤ suc (3 * alarms + 38 * tables)
fewer-entries expired passed alarms tables few short = omega (arith, few, short)

pub fewer-marks : (expired passed alarms tables : ℕ) → expired ≤ alarms → passed ≤ tables → 0 + 3 * expired + 36 * passed ≤ 3 * alarms + 36 * tables
fewer-marks expired passed alarms tables few short = omega (arith, few, short)
