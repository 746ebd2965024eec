-- The operations of a script, and what the names in them refer to. [own]
use Rattle.std.specs.Prelude.{ℕ, Bool, unwrap_or, List}
use Rattle.osvalidate.specs.Words.{Declaration, Op}
use Rattle.oscript.specs.declared.Op.TheVariants.{Work}
use Rattle.ossyntax.specs.Operation.{op_of_text, references_of_text, is_formed, is_known}
use Rattle.osjson.specs.Reading.{parts_of}
use Rattle.osschema.specs.Declarations.{place_of}

-- The texts of a script's operations, which are divided by `;`. An empty script has no operations.
abbrev pub operations_of : List ℕ → List (List ℕ)
operations_of script = parts_of 59 script

-- ---- operations

-- If the text is a well-formed operation, each name in it is that of an object of its kind. Any other text passes.
abbrev pub is_operation_known : List Declaration → List ℕ → Bool
is_operation_known objects text = is_known (place_of objects) text

-- The text is an operation, well-formed and in range.
abbrev pub is_operation : List ℕ → Bool
is_operation text = is_formed text

-- The operation that a text means. It is Work if the text is not well-formed or not in range, or if one of its names
-- has no object.
abbrev pub op_of : List Declaration → List ℕ → Op
op_of objects text = unwrap_or (op_of_text (place_of objects) text) Work

-- The operation that a text means, but with 0 for each `Number`, since the number may be out of range. The operation is
-- Work if the text is not well-formed, or if one of its names has no object.
abbrev pub named_op : List Declaration → List ℕ → Op
named_op objects text = unwrap_or (references_of_text (place_of objects) text) Work
