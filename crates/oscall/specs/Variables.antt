-- The operations of a script that are no services: those that work on its variables, jumps, and work. [own]
use Rattle.std.specs.Prelude.{ℤ, pos, ◌+ℤ◌, Option, Some, None}
use Rattle.std.specs.Int.{saturate_signed, w64}
use Rattle.osbase.specs.{declared.statuses.Status.TheVariants.EOk, declared.references.Runner.Runner, declared.references.Variable.Variable, History.Done, Words.status_number}
use Rattle.osbase.specs.declared.marks.Mark.TheVariants as Mark
use Rattle.oscript.specs.{declared.Op.Op, Frames.value_of}
use Rattle.osacts.specs.Acts.{Acts, Prints, look, notes, one_then}

-- The sum of two numbers, clamped to the range of a signed number of 64 bits.
abbrev pub sum_of : ℤ → ℤ → ℤ
sum_of a b = saturate_signed w64 (a +ℤ b)

-- The variable becomes this number, which is printed.
abbrev pub sets : Runner → Variable → ℤ → Acts
sets r x n = one_then (Prints (Mark.VariableSet r x n)) (notes (Done r EOk (Some n)))

-- The variable becomes its sum with this number, clamped, which is printed.
abbrev pub adds : Runner → Variable → ℤ → Acts
adds r x n = look (λ s. sets r x (sum_of (value_of x (s.row r).frame) n))

-- The first variable becomes the sum of both, clamped, which is printed.
abbrev pub adds_variable : Runner → Variable → Variable → Acts
adds_variable r x y = look (λ s. sets r x (sum_of (value_of x (s.row r).frame) (value_of y (s.row r).frame)))

-- The variable becomes the number of the job's last status, which is printed.
abbrev pub stores_status : Runner → Variable → Acts
stores_status r x = look (λ s. sets r x (pos (status_number (s.row r).frame.status)))

-- An operation such as `work` or a jump does nothing but complete: the job goes on to its next operation.
abbrev pub is_done : Runner → Acts
is_done r = notes (Done r EOk None)

-- What an operation does for a runner, if it is `work`, a jump, or one on the job's variables alone.
abbrev pub script_acts : Runner → Op → Option Acts
script_acts r Op.Work = Some (is_done r)
script_acts r (Op.Set x n) = Some (sets r x n)
script_acts r (Op.Add x n) = Some (adds r x n)
script_acts r (Op.AddVariable x y) = Some (adds_variable r x y)
script_acts r (Op.StoreStatus x) = Some (stores_status r x)
script_acts r (Op.Jump n) = Some (is_done r)
script_acts r (Op.JumpIfZero x n) = Some (is_done r)
script_acts r op = None
