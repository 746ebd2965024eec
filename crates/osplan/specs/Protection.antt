-- The words of a configuration's text for how a core answers a time fault. [AUTOSAR SWS OS 4.x, ProtectionReturnType]
use Rattle.std.specs.Prelude.{ℕ, Option, List, codes, find}
use Rattle.std.specs.Str.{bytes_eq}
use Rattle.osplan.specs.{declared.protection.Protection.Protection, declared.protection.TheConstants.PROTECTIONS}

-- The word for this answer in a configuration's text.
abbrev pub protection_word : Protection → List ℕ
protection_word Protection.Ignore = codes "PRO_IGNORE"
protection_word Protection.TerminateTaskIsr = codes "PRO_TERMINATETASKISR"
protection_word Protection.TerminateAppl = codes "PRO_TERMINATEAPPL"
protection_word Protection.TerminateApplRestart = codes "PRO_TERMINATEAPPL_RESTART"
protection_word Protection.Shutdown = codes "PRO_SHUTDOWN"

-- The answer that a word names, if there is one.
abbrev pub protection_named : List ℕ → Option Protection
protection_named word = find (λ (protection : Protection). bytes_eq (protection_word protection) word) PROTECTIONS
