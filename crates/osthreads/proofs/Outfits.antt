-- What the cores' threads start with, and what the ends of rings that come back show together. Those that come back are
-- the ends that were given.
use Rattle.std.proofs.Common.{◌≡◌, ◌⊎◌, inl, inr, ℕ, IsTrue, true, Option, Some, None, IfSome, is_some, List, [], ◌∷◌, ◌++◌, drop, length, map, refl, sym, ap, subst, ◌∙◌, append_assoc, append-nil, arith}
use Rattle.std.specs.{Option.option_to_list, List.AllByRecursion}
use Rattle.std.proofs.{lemmas.List.Elements.filter_passes, lemmas.List.Elements.recursion_from_All, lemmas.Option.same_Some}
use Rattle.osbase.specs.{declared.references.CoreId.CoreId, declared.messages.Letter.Letter, declared.turns.Report.Report, declared.messages.MailKind.MailKind, declared.messages.MailKind.TheVariants.Locked, declared.messages.MailKind.TheVariants.Ring, declared.turns.CoreStimuli.CoreStimuli, Sets.core_ids}
use Rattle.osplan.specs.{declared.plans.Plan.Plan, View.core_of, Limits.is_within_limits, Stimuli.AreKnown}
use Rattle.osmail.specs.{declared.ends.MailStep.MailStep, declared.rings.RingEnd.RingEnd, Ends.sent_to, Ends.taken_from}
use Rattle.osmail.specs.Rings.{AreDelivered, EndId, IsDelivered, IsUnused, core_of_end, end_id, past_of}
use Rattle.osrun.specs.{Fits.ids_of, Sound.AreSound}
use Rattle.osworker.specs.{declared.seats.Seats.Seats, Seats.Shared, Seats.first_seats}
use Rattle.osthreads.specs.{declared.ending.Ending.Ending, declared.ending.Kept.Kept, declared.ending.Kept.TheVariants.Rings, declared.ending.Kept.TheVariants.Steps, declared.ending.Outfit.Outfit, declared.runs.ThreadReason.ThreadReason, declared.runs.ThreadReason.TheVariants.NoMemory, declared.runs.ThreadReason.TheVariants.NoThread}
use Rattle.osthreads.specs.Threads.{AreAllKept, AreEnded, AreEndsFor, AreEquipped, AreReady, AreSettled, IsReady, IsSameEnd, IsSettled, IsThreadFault, end_kept, end_of, ends_kept, equipped, kept_in, outfit_cores, sent_of, taken_of, which_kept}
use Rattle.osthreads.proofs.Gathering.{AreGathered, AreOneEach, gathered, reports_of, seats-sound}

-- ---- before the threads

-- If something holds of all elements, it holds of all but the last, and of the last.
pub all_snoc : {X : Type 0} (P : X → Type 0) (xs : List X) (x : X) → AllByRecursion P (xs ++ x ∷ []) → AllByRecursion P xs × P x
all_snoc P [] x all = (tt, all.0)
all_snoc P (y ∷ ys) x all = let more = all_snoc P ys x all.1 in ((all.0, more.0), more.1)

-- One more core's seats, with the next end of the rings, if there is one.
abbrev outfit : Seats → Option RingEnd → Outfit
outfit s end = record { seats = s; end = end }

no-shorter : {X : Type 0} (x : X) (xs : List X) → x ∷ xs ≡ xs → ⊥
no-shorter x xs same = let lengths = ap length same in omega (arith, lengths)

one-equipped : (s : Seats) (more : List Seats) (left rest : List RingEnd) (end : Option RingEnd) → left ≡ option_to_list end ++ rest → rest ≡ drop 1 left → equipped (s ∷ more) left ≡ outfit s end ∷ equipped more rest
one-equipped s more left rest (Some e) items dropped = ap (equipped (s ∷ more)) items
one-equipped s more [] rest None items dropped = ap (λ (es : List RingEnd). outfit s None ∷ equipped more es) items
one-equipped s more (x ∷ xs) rest None items dropped = absurd (no-shorter x xs (items ∙ dropped))

pub equipped_more : (done : List Seats) (s : Seats) (ends left rest : List RingEnd) (outfits outfits' : List Outfit) (end : Option RingEnd) → left ≡ option_to_list end ++ rest → rest ≡ drop 1 left → outfits' ≡ outfits ++ outfit s end ∷ [] → ((more : List Seats) → equipped (done ++ more) ends ≡ outfits ++ equipped more left) → (more : List Seats) → equipped ((done ++ s ∷ []) ++ more) ends ≡ outfits' ++ equipped more rest
equipped_more done s ends left rest outfits outfits' end items dropped pushed so more =
    ap (λ (ss : List Seats). equipped ss ends) (append_assoc done (s ∷ []) more) ∙ so (s ∷ more)
    ∙ ap (λ (os : List Outfit). outfits ++ os) (one-equipped s more left rest end items dropped)
    ∙ sym (append_assoc outfits (outfit s end ∷ []) (equipped more rest))
    ∙ ap (λ (os : List Outfit). os ++ equipped more rest) (sym pushed)

-- ---- by kind

pub not_locked : (kind : MailKind) (es : List Ending) → kind ≡ Ring → kind ≡ Locked → AreSettled es
not_locked kind es ring locked = absurd (cc)

pub ring_ends : (kind : MailKind) (cores : List CoreId) (ends : List RingEnd) → kind ≡ Ring → map core_of_end ends ≡ cores → AreEndsFor kind cores ends
ring_ends kind cores ends is all = rw is all

pub no_ends : (kind : MailKind) (cores : List CoreId) (ends : List RingEnd) → kind ≡ Locked → ends ≡ [] → AreEndsFor kind cores ends
no_ends kind cores ends is none = rw is none

pub none_linked : (ends : List RingEnd) (rings : List EndId) → ends ≡ [] → rings ≡ [] → map end_id ends ≡ rings
none_linked ends rings none none' = ap (map end_id) none ∙ sym none'

pub none_unused : (ends : List RingEnd) → ends ≡ [] → AllByRecursion IsUnused ends
none_unused ends none = rw none tt

equipped-cores : (shared : Shared) (cs : List CoreId) (ends : List RingEnd) → outfit_cores (equipped (map (first_seats shared) cs) ends) ≡ cs
equipped-cores shared [] ends = refl
equipped-cores shared (c ∷ cs) [] = ap (λ (ds : List CoreId). c ∷ ds) (equipped-cores shared cs [])
equipped-cores shared (c ∷ cs) (e ∷ ends) = ap (λ (ds : List CoreId). c ∷ ds) (equipped-cores shared cs ends)

module _ (plan : Plan) (cores : List CoreId) (shared : Shared) (listed : cores ≡ ids_of plan) where
  ready-one : (c : CoreId) (end : Option RingEnd) → is_some (core_of plan c) ≡ true → IfSome end IsUnused → IsReady plan cores shared (outfit (first_seats shared c) end)
  ready-one c end there unused = record { listed = listed; configured = there; placed = record { board = refl; spins = refl; board_core = refl; spins_core = refl }; fresh = refl; unused = unused }

  ready-each : (cs : List CoreId) (ends : List RingEnd) → AllByRecursion (λ c. is_some (core_of plan c) ≡ true) cs → AllByRecursion IsUnused ends → AreReady plan cores shared (equipped (map (first_seats shared) cs) ends)
  ready-each [] ends all unused = tt
  ready-each (c ∷ cs) [] all unused = (ready-one c None all.0 tt, ready-each cs [] all.1 tt)
  ready-each (c ∷ cs) (e ∷ ends) all unused = (ready-one c (Some e) all.0 unused.0, ready-each cs ends all.1 unused.1)

  -- Each configured core's outfit is ready.
  pub all-ready : (kind : MailKind) (rings : List EndId) (outfits : List Outfit) → AreEquipped kind (ids_of plan) shared rings outfits → AreReady plan cores shared outfits
  all-ready kind rings outfits are = rw are.made (ready-each (ids_of plan) are.ends (recursion_from_All _ _ (filter_passes (λ c. is_some (core_of plan c)) core_ids)) are.unused)

-- An outfit with an end of the rings, or without one.
pub ready_with : (plan : Plan) (cores : List CoreId) (shared : Shared) (outfit : Outfit) (end : Option RingEnd) → outfit.end ≡ end → IsReady plan cores shared outfit → IsReady plan cores shared (record { seats = outfit.seats; end = end })
ready_with plan cores shared outfit end is ready = rw (← is) ready

pub same_given : (given end : Option RingEnd) (kept : Kept) → given ≡ end → IsSameEnd end kept → IsSameEnd given kept
same_given given end kept is same = rw is same

-- ---- after the threads

-- One more ending, and the ends of rings that it left behind.
pub kept_more : (es : List Ending) (e : Ending) (ends ends' : List RingEnd) → ends ≡ ends_kept es → ends' ≡ ends ++ kept_in e.kept → ends' ≡ ends_kept (es ++ e ∷ [])
kept_more es e ends ends' are more = more ∙ ap (λ (xs : List RingEnd). xs ++ kept_in e.kept) are ∙ push es
  where
    push : (es : List Ending) → ends_kept es ++ kept_in e.kept ≡ ends_kept (es ++ e ∷ [])
    push [] = sym (append-nil (kept_in e.kept))
    push (x ∷ es) = append_assoc (kept_in x.kept) (ends_kept es) (kept_in e.kept) ∙ ap (λ (xs : List RingEnd). kept_in x.kept ++ xs) (push es)

-- What two records of mailboxes under locks show of their cores' ends.
pub settled_by : (a b : Ending) (sent taken : List MailStep) (left : List Letter) → (sent_of a.kept ≡ sent_to sent) × (taken_of a.kept ≡ taken_from sent) → (sent_of b.kept ≡ sent_to taken) × (taken_of b.kept ≡ taken_from taken) → taken_from taken a.report.core ++ left ≡ sent_to sent b.report.core → IsSettled a b
settled_by a b sent taken left from to same = rw (from.0, to.1) (left, same)

-- The values of the options that have one.
abbrev somes : {X : Type 0} → List (Option X) → List X
somes [] = []
somes (None ∷ os) = somes os
somes (Some x ∷ os) = x ∷ somes os

ids-back : (es : List Ending) → map end_id (ends_kept es) ≡ somes (map end_kept es)
ids-back [] = refl
ids-back (e ∷ es) = by e.kept (ids-back es)
  where
    by : (kept : Kept) → map end_id (ends_kept es) ≡ somes (map end_kept es) → map end_id (kept_in kept ++ ends_kept es) ≡ somes (which_kept kept ∷ map end_kept es)
    by (Steps steps) rest = rest
    by (Rings end) rest = ap (λ (is : List EndId). end_id end ∷ is) rest

given-each : (shared : Shared) (cs : List CoreId) (ends : List RingEnd) → map core_of_end ends ≡ cs → somes (map end_of (equipped (map (first_seats shared) cs) ends)) ≡ map end_id ends
given-each shared [] [] cores = refl
given-each shared (c ∷ cs) (e ∷ ends) cores = ap (λ (is : List EndId). end_id e ∷ is) (given-each shared cs ends (cc))
given-each shared cs ends cores = absurd (cc)

given-none : (ss : List Seats) → somes (map end_of (equipped ss [])) ≡ []
given-none [] = refl
given-none (s ∷ ss) = given-none ss

given-all : (kind : MailKind) (shared : Shared) (cs : List CoreId) (ends : List RingEnd) → AreEndsFor kind cs ends → somes (map end_of (equipped (map (first_seats shared) cs) ends)) ≡ map end_id ends
given-all Ring shared cs ends cores = given-each shared cs ends cores
given-all Locked shared cs ends none = rw none (given-none (map (first_seats shared) cs))

-- The worker left an end of the rings behind, which is its core's.
record HasEnd (e : Ending) : Type 0 where
  end : RingEnd
  kept : e.kept ≡ Rings end
  core : core_of_end end ≡ e.report.core

end-by : (e : Ending) (given : RingEnd) → end_kept e ≡ Some (end_id given) → core_of_end given ≡ e.report.core → HasEnd e
end-by e given same core = by e.kept refl same
  where
    by : (kept : Kept) → e.kept ≡ kept → which_kept kept ≡ Some (end_id given) → HasEnd e
    by (Steps steps) is same = absurd (cc)
    by (Rings end) is same = record { end = end; kept = is; core = ap (λ (i : EndId). i.core) (same_Some _ _ same) ∙ core }

abbrev report_cores : List Ending → List CoreId
report_cores es = map (λ (r : Report). r.core) (map (λ (e : Ending). e.report) es)

ends-by : (shared : Shared) (cs : List CoreId) (ends : List RingEnd) (es : List Ending) → map core_of_end ends ≡ cs → map end_kept es ≡ map end_of (equipped (map (first_seats shared) cs) ends) → report_cores es ≡ cs → AllByRecursion HasEnd es
ends-by shared cs ends [] cores same reports = tt
ends-by shared (c ∷ cs) (g ∷ ends) (e ∷ es) cores same reports = (end-by e g (cc) (cc), ends-by shared cs ends es (cc) (cc) (cc))
ends-by shared cs ends es cores same reports = absurd (cc)

settled-one : (a b : Ending) (from : HasEnd a) (to : HasEnd b) → IsDelivered (past_of from.end) (past_of to.end) → IsSettled a b
settled-one a b from to delivered = rw (to.kept, from.kept, ← from.core, ← to.core) delivered

-- What the ends that were left behind show together holds of each two workers that left them.
settled-row : (a : Ending) (from : HasEnd a) (bs : List Ending) → AllByRecursion HasEnd bs → AllByRecursion (IsDelivered (past_of from.end)) (map past_of (ends_kept bs)) → AllByRecursion (IsSettled a) bs
settled-row a from [] has all = tt
settled-row a from (b ∷ bs) has all =
    let each = rw has.0.kept at all in
    (settled-one a b from has.0 each.0, settled-row a from bs has.1 each.1)

settled-rows : (es : List Ending) → AllByRecursion HasEnd es → (xs : List Ending) → AllByRecursion HasEnd xs → AllByRecursion (λ a. AllByRecursion (IsDelivered a) (map past_of (ends_kept es))) (map past_of (ends_kept xs)) → AllByRecursion (λ (a : Ending). AllByRecursion (IsSettled a) es) xs
settled-rows es to [] from all = tt
settled-rows es to (x ∷ xs) from all =
    let each = rw from.0.kept at all in
    (settled-row x from.0 es to each.0, settled-rows es to xs from.1 each.1)

-- ---- what the reports of all cores are

module _ (plan : Plan) (stimuli : List CoreStimuli) (turns : ℕ) (kind : MailKind) (shared : Shared) (rings : List EndId) (outfits : List Outfit) (es : List Ending)
    (are : AreEquipped kind (ids_of plan) shared rings outfits) (ended : AreEnded plan stimuli turns shared (outfit_cores outfits) es) where
  pub all-gathered : AreGathered plan stimuli turns shared (ids_of plan) es
  all-gathered =
      subst (λ (ids : List CoreId). AreGathered plan stimuli turns shared ids es) (ap outfit_cores are.made ∙ equipped-cores shared (ids_of plan) are.ends) (gathered plan stimuli turns shared (outfit_cores outfits) es ended)

  module _ (same : map end_kept es ≡ map end_of outfits) where
    -- All ends of the rings came back, and no others.
    pub all-back : map end_id (ends_kept es) ≡ rings
    all-back = ids-back es ∙ ap somes (same ∙ ap (map end_of) are.made) ∙ given-all kind shared (ids_of plan) are.ends are.ends_for ∙ are.all

    -- What the ends of rings show together is what the comparison of mailboxes under locks shows.
    all-settled : AreDelivered (map past_of (ends_kept es)) → (kind ≡ Locked → AreSettled es) → AreSettled es
    all-settled delivered compared = by kind refl
      where
        by : (k : MailKind) → kind ≡ k → AreSettled es
        by Locked is = compared is
        by Ring is =
            let has = ends-by shared (ids_of plan) are.ends es (rw is at are.ends_for) (same ∙ ap (map end_of) are.made) all-gathered.cores in
            settled-rows es has es has delivered

    -- If the mail is whole, the reports are sound.
    pub whole-sound : AreOneEach plan stimuli turns shared es → IsTrue (is_within_limits plan) → AreKnown plan stimuli → AreAllKept es → AreDelivered (map past_of (ends_kept es)) → (kind ≡ Locked → AreSettled es) → AreSound plan stimuli (reports_of es)
    whole-sound one limits known kept delivered compared = seats-sound plan stimuli turns shared es all-gathered one limits known kept (all-settled delivered compared)

-- The reports are sound also if a thread could not be started or memory ran out.
pub fault-sound : (plan : Plan) (stimuli : List CoreStimuli) (reason : ThreadReason) (reports : List Report) → (reason ≡ NoThread) ⊎ (reason ≡ NoMemory) → AreSound plan stimuli reports → IsThreadFault plan stimuli reason reports
fault-sound plan stimuli reason reports (inl is) sound = rw is sound
fault-sound plan stimuli reason reports (inr is) sound = rw is sound
