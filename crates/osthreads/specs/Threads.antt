-- What the workers' threads give back. [own]
use mathlib.Core.List.{IsPrefix}
use Rattle.std.specs.Prelude.{◌≡◌, ◌≤◌, ℕ, true, Option, Some, None, IfSome, IsSome, IsTrue, List, [], ◌∷◌, ◌++◌, map, option_map, Vec, vec_len, vec_capacity}
use Rattle.std.specs.Global.{Global}
use Rattle.std.specs.List.{AllByRecursion}
use Rattle.osbase.specs.{declared.references.CoreId.CoreId, declared.turns.CoreStimuli.CoreStimuli, declared.messages.MailKind.MailKind, declared.messages.MailKind.TheVariants.Locked, declared.messages.MailKind.TheVariants.Ring, declared.turns.Report.Report}
use Rattle.osplan.specs.{declared.plans.Plan.Plan, Limits.is_within_limits, View.core_of, View.view_of}
use Rattle.osshared.specs.Histories.{Thinned}
use Rattle.osmail.specs.{declared.rings.RingEnd.RingEnd, Ends.Streams, Ends.sent_to, Ends.taken_from}
use Rattle.osmail.specs.Rings.{EndId, IsUnused, core_of_end, end_id, ring_sent, ring_taken}
use Rattle.osboard.specs.Boards.{IsLook}
use Rattle.osspin.specs.Spins.{IsRefusedCall}
use Rattle.osrun.specs.{Requests.Calls, Requests.no_calls, Fits.history_by, Fits.ids_of, Sound.AreSound}
use Rattle.osworker.specs.declared.seats.Seats.{Seats}
use Rattle.osthreads.specs.{declared.ending.Ending.Ending, declared.ending.Kept.Kept, declared.ending.Kept.TheVariants.Rings, declared.ending.Kept.TheVariants.Steps, declared.ending.Outfit.Outfit, declared.runs.Prepared.Prepared, declared.runs.Returned.Returned, declared.runs.Room.Room, declared.runs.Seated.Seated, declared.runs.ThreadReason.ThreadReason}
use Rattle.osthreads.specs.Runs.{IsOneCore, IsRun, new_board, new_spins}
use Rattle.osworker.specs.Seats.{AreAt, Shared, first_seats, made_from, shared}
use Rattle.osworker.specs.Working.{IsFinished, IsMailed, is_finished_by, is_kept_by, refusal_at}
use Rattle.osthreads.specs.declared.runs.ThreadReason.TheVariants.{NotBegun, NoMemory, NoThread, MailBreak}

-- What a core's end of the mail sent, by what it left behind.
abbrev pub sent_of : Kept → Streams
sent_of (Steps steps) = sent_to steps.items
sent_of (Rings end) = ring_sent end

-- What a core's end of the mail took, by what it left behind.
abbrev pub taken_of : Kept → Streams
taken_of (Steps steps) = taken_from steps.items
taken_of (Rings end) = ring_taken end

-- Which end of the rings was kept, if one was.
abbrev pub which_kept : Kept → Option EndId
which_kept (Steps steps) = None
which_kept (Rings end) = Some (end_id end)

-- Which end of the rings this is, if there is one.
abbrev pub which_end : Option RingEnd → Option EndId
which_end end = option_map end_id end

-- Which end of the rings came back with the ending, if one did.
abbrev pub end_kept : Ending → Option EndId
end_kept e = which_kept e.kept

-- Which end of the rings the outfit has, if it has one.
abbrev pub end_of : Outfit → Option EndId
end_of outfit = which_end outfit.end

-- The end of the rings that was given came back, or none was given and none came back.
abbrev pub IsSameEnd : Option RingEnd → Kept → Type 0
IsSameEnd end kept = which_kept kept ≡ which_end end

-- Each core's outfit: its seats with an end of the rings, paired in order. Seats for which no end is left are without
-- one.
abbrev pub equipped : List Seats → List RingEnd → List Outfit
equipped [] ends = []
equipped (s ∷ ss) [] = record { seats = s; end = None } ∷ equipped ss []
equipped (s ∷ ss) (e ∷ ends) = record { seats = s; end = Some e } ∷ equipped ss ends

-- There is an end of the rings for each core, in order. If the mail goes through mailboxes under locks, there is none.
abbrev pub AreEndsFor : MailKind → List CoreId → List RingEnd → Type 0
AreEndsFor Ring cores ends = map core_of_end ends ≡ cores
AreEndsFor Locked cores ends = ends ≡ []

-- These are the outfits of these cores: each core's seats, from which no call was made, with ends by `AreEndsFor`. The
-- ends are all that `rings` lists, and none was used.
pub record AreEquipped (kind : MailKind) (cores : List CoreId) (shared : Shared) (rings : List EndId) (outfits : List Outfit) : Type 0 where
  pub ends : List RingEnd
  pub made : outfits ≡ equipped (map (first_seats shared) cores) ends
  pub ends_for : AreEndsFor kind cores ends
  pub all : map end_id ends ≡ rings
  pub unused : AllByRecursion IsUnused ends

-- Each of these vectors is empty, and has room for `count` elements.
pub record HasRoomFor (count : ℕ) (returned : Returned) : Type 0 where
  pub board : (returned.board.items ≡ []) × (count ≤ vec_capacity returned.board)
  pub spins : (returned.spins.items ≡ []) × (count ≤ vec_capacity returned.spins)
  pub ends : (returned.ends.items ≡ []) × (count ≤ vec_capacity returned.ends)
  pub reports : (returned.reports.items ≡ []) × (count ≤ vec_capacity returned.reports)

-- The vector of the endings, and each vector that the endings are split into, is empty. Each has room for `count`
-- elements.
pub record IsRoomFor (count : ℕ) (room : Room) : Type 0 where
  pub endings : (room.endings.items ≡ []) × (count ≤ vec_capacity room.endings)
  pub returned : HasRoomFor count room.returned

-- The board, the spinlocks and the seats of a run of this configuration: each core's seats, from which no call was
-- made, are at this board and these spinlocks.
pub record IsSeated (plan : Plan) (s : Seated) : Type 0 where
  pub board : s.board.plan ≡ new_board plan
  pub bank : s.bank.plan ≡ new_spins plan
  pub seats : s.seats.items ≡ map (first_seats (shared s.board s.bank)) (ids_of plan)

-- What a run of this configuration by mail of this kind needs before its threads start: the configured cores, what they
-- share, an outfit for each, and room for what its thread gives back. The configuration is within its limits.
pub record IsPrepared (plan : Plan) (kind : MailKind) (p : Prepared) : Type 0 where
  pub limits : IsTrue (is_within_limits plan)
  pub cores : p.cores.items ≡ ids_of plan
  pub board : p.board.plan ≡ new_board plan
  pub bank : p.bank.plan ≡ new_spins plan
  pub outfits : AreEquipped kind (ids_of plan) (shared p.board p.bank) p.mail.rings p.outfits.items
  pub room : IsRoomFor (vec_len p.outfits) p.room

-- The end of the rings that came back, as a list; the empty list if none did.
abbrev pub kept_in : Kept → List RingEnd
kept_in (Steps steps) = []
kept_in (Rings end) = end ∷ []

-- The ends of the rings that came back with these endings, in order.
abbrev pub ends_kept : List Ending → List RingEnd
ends_kept [] = []
ends_kept (e ∷ es) = kept_in e.kept ++ ends_kept es

-- The endings, split into seats, ends of the rings and reports.
pub record AreParts (endings : List Ending) (returned : Returned) : Type 0 where
  pub board : returned.board.items ≡ map (λ (e : Ending). e.seats.board) endings
  pub spins : returned.spins.items ≡ map (λ (e : Ending). e.seats.spins) endings
  pub ends : returned.ends.items ≡ ends_kept endings
  pub reports : returned.reports.items ≡ map (λ (e : Ending). e.report) endings

-- The outfit has a configured core's seats, from which no call was made yet. If it has an end of the rings, that end
-- was not used. `cores` are the configured cores.
pub record IsReady (plan : Plan) (cores : List CoreId) (shared : Shared) (outfit : Outfit) : Type 0 where
  pub listed : cores ≡ ids_of plan
  pub configured : IsSome (core_of plan outfit.seats.board.core)
  pub placed : AreAt shared outfit.seats.board.core outfit.seats
  pub fresh : made_from outfit.seats ≡ no_calls
  pub unused : IfSome outfit.end IsUnused

abbrev pub AreReady : Plan → List CoreId → Shared → List Outfit → Type 0
AreReady plan cores shared outfits = AllByRecursion (IsReady plan cores shared) outfits

-- Each outfit is ready, and there is room for its ending in the vector of the endings, which is empty.
pub record MayStart (plan : Plan) (cores : List CoreId) (shared : Shared) (outfits : Vec Outfit Global) (endings : Vec Ending Global) : Type 0 where
  pub ready : AreReady plan cores shared outfits.items
  pub empty : endings.items ≡ []
  pub room : vec_len outfits ≤ vec_capacity endings

abbrev pub outfit_cores : List Outfit → List CoreId
outfit_cores outfits = map (λ (o : Outfit). o.seats.board.core) outfits

-- What the worker of this core gave back. Its report is a run (`IsRun`) by the calls that were made from its seats,
-- apart from looks and refused calls of spinlocks. Its end of the mail sent what its items post and took what they
-- receive, but for a letter that the core could not take. If the worker stopped since its core had ended or its turns
-- changed nothing, `IsFinished` holds.
pub record IsEnded (plan : Plan) (stimuli : List CoreStimuli) (turns : ℕ) (shared : Shared) (id : CoreId) (e : Ending) : Type 0 where
  pub core : e.report.core ≡ id
  pub placed : AreAt shared id e.seats
  pub log : Calls
  pub is_run : IsRun plan stimuli e.report log
  pub board : Thinned IsLook e.seats.board.mine log.board
  pub spins : Thinned IsRefusedCall e.seats.spins.mine log.spins
  pub mail : IsMailed (view_of plan e.report.core) (history_by plan e.report.core e.report.items) (sent_of e.kept) (taken_of e.kept) (refusal_at e.stop)
  pub finished : is_finished_by e.stop ≡ true → IsFinished plan stimuli turns e.report (made_from e.seats)

-- The endings are those of the listed cores, in order, each by `IsEnded`.
abbrev pub AreEnded : Plan → List CoreStimuli → ℕ → Shared → List CoreId → List Ending → Type 0
AreEnded plan stimuli turns shared [] [] = Unit {0}
AreEnded plan stimuli turns shared [] (e ∷ es) = ⊥
AreEnded plan stimuli turns shared (i ∷ is) [] = ⊥
AreEnded plan stimuli turns shared (i ∷ is) (e ∷ es) = IsEnded plan stimuli turns shared i e × AreEnded plan stimuli turns shared is es

-- Each envelope that a worker took became an item.
abbrev pub AreAllKept : List Ending → Type 0
AreAllKept es = AllByRecursion (λ (e : Ending). is_kept_by e.stop ≡ true) es

-- Each worker's core has ended, or its turns changed nothing any more.
abbrev pub AreAllFinished : List Ending → Type 0
AreAllFinished es = AllByRecursion (λ (e : Ending). is_finished_by e.stop ≡ true) es

-- What the second core took from the first is a prefix of what the first sent to it.
abbrev pub IsSettled : Ending → Ending → Type 0
IsSettled a b = IsPrefix (taken_of b.kept a.report.core) (sent_of a.kept b.report.core)

-- `IsSettled` holds of each two of these endings.
abbrev pub AreSettled : List Ending → Type 0
AreSettled es = AllByRecursion (λ a. AllByRecursion (IsSettled a) es) es

-- The reports beside a fault. If nothing ran, there are none. If a worker had no memory or a thread could not be
-- started, they are sound (`AreSound`), one for each configured core. If the mail broke, there is one for each
-- configured core: that of its own items (`IsOneCore`).
abbrev pub IsThreadFault : Plan → List CoreStimuli → ThreadReason → List Report → Type 0
IsThreadFault plan stimuli NotBegun reports = reports ≡ []
IsThreadFault plan stimuli NoMemory reports = AreSound plan stimuli reports
IsThreadFault plan stimuli NoThread reports = AreSound plan stimuli reports
IsThreadFault plan stimuli MailBreak reports = (map (λ (r : Report). r.core) reports ≡ ids_of plan) × AllByRecursion (IsOneCore plan stimuli) reports
