-- When a budget is used up.
use Rattle.std.specs.Prelude.{ℕ, ◌+◌, ◌-◌, ◌%◌, ◌^◌, ◌&&◌, nat_le, nat_lt, Bool}

-- The used ticks have reached the budget. A budget of 0 is none: no job reaches it. [AUTOSAR SWS OS 4.x, SWS_Os_00064
-- and SWS_Os_00210; that 0 is none: own]
abbrev pub is_reached : ℕ → ℕ → Bool
is_reached budget used = nat_lt 0 budget && nat_le budget used

-- The number of ticks from the count `then` to the count `now`. The counts wrap at 2 ^ 64. [own]
abbrev pub ticks_since : ℕ → ℕ → ℕ
ticks_since now then = (now + (2 ^ 64 - then)) % 2 ^ 64
