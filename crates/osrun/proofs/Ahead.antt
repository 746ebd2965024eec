-- What a separate core prints at its items is a prefix of what it prints in its configuration alone.
use mathlib.Core.List.{IsPrefix}
use Rattle.std.proofs.Common.{◌≡◌, ◌^◌, ◌+◌, ◌<◌, ◌≤◌, ◌||◌, suc, Bool, true, false, not, Some, None, List, [], ◌∷◌, ◌++◌, length, map, refl, sym, ap, ◌∙◌, arith, append-nil}
use Rattle.std.specs.List.{list_all}
use Rattle.std.proofs.lemmas.Bool.{and_parts, cond_both}
use Rattle.osbase.specs.{declared.references.CoreId.CoreId, declared.references.ModeId.ModeId, declared.items.Agreement.Agreement, declared.items.CoreSet.CoreSet, declared.items.Item.Item, declared.items.Stimulus.Stimulus, declared.marks.Mark.Mark, declared.histories.Phase.Phase, Sets.has_core, declared.items.CoreMode.TheVariants.Named, Phases.is_going}
use Rattle.osbase.specs.History.{History, Took, Printed, course_of, item_count, marks_of}
use Rattle.osbase.specs.Spins.{is_owing}
use Rattle.osplan.specs.{Stimuli.knows_stimulus, View.View}
use Rattle.osstate.specs.{Readings.knows_started, Readings.phase_at, State.state_of}
use Rattle.osservice.proofs.Kept.{nobody}
use Rattle.osadmit.specs.Admission.{admits, are_started_cores, is_agreement}
use Rattle.oskernel.specs.Step.{after, history_from, outbox_size, solo, solo_from}
use Rattle.oskernel.proofs.Among.{among, base_of, course-same, marks-same, phase-same}
use Rattle.oskernel.proofs.{Calm.Calm, Calm.calm-after, Calm.settled, Carried.NamesAllow, Holding.kept_after, Idling.Idle, Idling.drained-idle, Idling.end-idle}
use Rattle.oskernel.proofs.Stages.{is_mail, solo-parts}
use Rattle.oskernel.proofs.Stepping.{alone_view, same-drained, same-gate, same-stimulus}
use Rattle.osrun.specs.{Fits.has_drained, Fits.stimuli_in, Sound.until_down}
use Rattle.osrun.proofs.{Beginnings.begins-itself, Beginnings.begins-longer, Beginnings.begins-through, Drained.is_past_drain, Going.calm-goes, Going.drained-course}
use Rattle.osrun.proofs.{Readings.count-after, Readings.phase-after, Readings.started-after, Sane.AreUndisturbed, Sane.is_disturbance}

-- ---- items in order

-- Each of the items may be taken in turn; none is mail, and none a conflict or a shutdown of all cores.
pub record Taken (v : View) (h : History) (items : List Item) : Type 0 where
  pub each : solo_from v h items ≡ Some (history_from v h items)
  pub no_mail : list_all (λ (i : Item). not (is_mail i)) items ≡ true
  pub calm : AreUndisturbed items

record First (v : View) (h : History) (i : Item) (is : List Item) : Type 0 where
  pub may : admits outbox_size (state_of v h) i ≡ true
  pub plain : (is_mail i || is_disturbance i) ≡ false
  pub rest : Taken v (after v h i) is

first : (v : View) (h : History) (i : Item) (is : List Item) → Taken v h (i ∷ is) → First v h i is
first v h i is taken =
    let turn = solo-parts v h i is taken.each in
    record {
      may = turn.0;
      plain = grind (arith, taken.no_mail, taken.calm);
      rest = record { each = turn.1; no_mail = grind (arith, taken.no_mail); calm = grind (arith, taken.calm) };
    }

-- The last items of a core that has drained print nothing and take no stimulus.
abbrev Ends : View → History → List Item → Type 0
Ends v h items = (marks_of (history_from v h items) ≡ marks_of h) × (stimuli_in items ≡ []) × (course_of (history_from v h items) ≡ course_of h)

last : (v : View) (h : History) → is_past_drain (phase_at v h) ≡ true → (phase_at v h ≡ Phase.Drained → Idle v h) → (items : List Item) → Taken v h items → Ends v h items
last v h past idle [] taken = (refl, refl, refl)
last v h past idle (Item.PassEnd ∷ is) taken =
    let f = first v h Item.PassEnd is taken in
    let stays = end-idle v h (idle (grind (arith, f.may))) in
    rw stays (last v (Took Item.PassEnd ∷ h) refl (λ e. cc) is (rw stays at f.rest))
last v h past idle (Item.Last None ∷ is) taken = last v (Took (Item.Last None) ∷ h) refl (λ e. cc) is (first v h (Item.Last None) is taken).rest
last v h past idle (i ∷ is) taken = let f = first v h i is taken in absurd (grind (arith, past, f.may, f.plain))

-- Marks are never taken back.
grows : (v : View) (ms : List Mark) (h : History) (items : List Item) → IsPrefix ms (marks_of h) → IsPrefix ms (marks_of (history_from v h items))
grows v ms h [] begins = begins
grows v ms h (i ∷ is) begins =
    grows v ms (after v h i) is (kept_after (λ (k : History). IsPrefix ms (marks_of k)) (λ m k p. begins-through _ _ _ p (begins-longer (marks_of k) (m ∷ []))) (λ n k p. p) v h i begins)

-- ---- a core with the items that it took, and alone with the items ahead of it

-- The items that the core took print a prefix of what the items ahead print alone, and all of it once it has drained.
abbrev pub Goes : View → View → History → History → List Item → List Item → Type 0
Goes v self h k items ahead =
    IsPrefix (marks_of (history_from v h items)) (marks_of (history_from self k ahead))
    × (has_drained items ≡ true → marks_of (history_from v h items) ≡ marks_of (history_from self k ahead))

stops : (v self : View) (h k : History) (ahead : List Item) → marks_of h ≡ marks_of k → Goes v self h k [] ahead
stops v self h k ahead same = (grows self (marks_of h) k ahead (rw same (begins-itself (marks_of k))), λ drained. cc)

abbrev pub live_items : List Stimulus → List Item
live_items st = map Item.Stim st ++ Item.Drained ∷ []

abbrev pub gates_of : ModeId → CoreSet → List Item
gates_of m own = Item.Entered ∷ Item.Pass1 (Agreement.Mode m) ∷ Item.Readied ∷ Item.Pass2 own ∷ []

-- The stimuli among these that the core takes alone.
abbrev pub ahead_of : View → ModeId → CoreSet → List Stimulus → List Stimulus
ahead_of self m own st = until_down self (history_from self [] (gates_of m own)) st

abbrev pub boot_items : View → ModeId → CoreSet → List Stimulus → List Item
boot_items self m own st = gates_of m own ++ live_items (ahead_of self m own st)

module _ (v : View) (ids : List CoreId) (allowed : NamesAllow v nobody) where
  abbrev self : View
  self = alone_view v ids

  -- What the core names is the same when it is alone.
  allow_alone : NamesAllow self nobody
  allow_alone = record {
    scripts = λ r n op e. let one = allowed.scripts r n op e in record { objects = one.objects; locks = one.locks; shared = one.shared; halt = one.halt };
    actions = allowed.actions;
  }

  -- The stimuli among these items are a prefix of the listed ones, and all of them if the core has drained and runs.
  abbrev FitsIn : History → List Item → List Stimulus → Type 0
  FitsIn h items st = IsPrefix (stimuli_in items) st × (has_drained items ≡ true → is_going (course_of (history_from v h items)) ≡ true → stimuli_in items ≡ st)

  -- If the core is down or halted, or no stimulus is listed, no stimulus is ahead.
  until-none : (k : History) (st : List Stimulus) → (is_going (course_of k) ≡ true → st ≡ []) → until_down self k st ≡ []
  until-none k [] none = refl
  until-none k (x ∷ xs) none =
      let later = until_down self (after self k (Item.Stim x)) xs in
      cond_both (is_going (course_of k)) (x ∷ later) [] (λ (ys : List Stimulus). ys ≡ []) (λ going. let clash = none going in cc) (λ down. refl)

  module _ (s : CoreSet) where
    abbrev here : History → History
    here k = among s (base_of v.around.is_master) k

    marks_here : (h k : History) → h ≡ here k → marks_of h ≡ marks_of k
    marks_here h k same = ap marks_of same ∙ marks-same s v.around.is_master k

    -- The core is live, calm, and started, both in the world and alone.
    record Steady (h k : History) : Type 0 where
      pub same : h ≡ here k
      pub live : phase_at v h ≡ Phase.Live
      pub calm : Calm h
      pub there : knows_started h v.core ≡ true
      pub alone : knows_started k v.core ≡ true

    steady-on : (stimulus : Stimulus) (h k : History) → Steady h k → Steady (after v h (Item.Stim stimulus)) (after self k (Item.Stim stimulus))
    steady-on stimulus h k steady = record {
      same = ap (λ (x : History). after v x (Item.Stim stimulus)) steady.same ∙ same-stimulus v ids s allowed stimulus k (rw steady.same at steady.there) steady.alone;
      live = phase-after v h (Item.Stim stimulus) ∙ steady.live;
      calm = calm-after v allowed h (Item.Stim stimulus) refl steady.calm;
      there = rw (started-after v h (Item.Stim stimulus)) steady.there;
      alone = rw (started-after self k (Item.Stim stimulus)) steady.alone;
    }

    -- From the phase Live on, each stimulus does the same in the world and alone, and so does draining.
    live : (items : List Item) (h k : History) (st : List Stimulus) → Steady h k → Taken v h items → FitsIn h items st → Goes v self h k items (live_items (until_down self k st))
    live [] h k st steady taken fits = stops v self h k (live_items (until_down self k st)) (marks_here h k steady.same)
    live (Item.Stim stimulus ∷ is) h k st steady taken fits =
        let f = first v h (Item.Stim stimulus) is taken in
        let going : is_going (course_of k) ≡ true = grind (arith, f.may, ap course_of steady.same ∙ course-same s v.around.is_master k) in
        rw (← fits.0.1, going)
        (live is (after v h (Item.Stim stimulus)) (after self k (Item.Stim stimulus)) (stimuli_in is ++ fits.0.0) (steady-on stimulus h k steady) f.rest ((fits.0.0, refl), λ drained still. cc (fits.1 drained still, fits.0.1)))
    live (Item.Drained ∷ is) h k st steady taken fits = rw none (([], append-nil _ ∙ marks), λ drained. marks)
      where
        ends : Ends v (after v h Item.Drained) is
        ends =
            let idle = drained-idle v h steady.calm.closed (ap is_owing steady.calm.none_got) in
            last v (after v h Item.Drained) (ap is_past_drain (phase-after v h Item.Drained)) (λ at. idle) is (first v h Item.Drained is taken).rest

        course : course_of (history_from v (after v h Item.Drained) is) ≡ course_of k
        course = ends.2 ∙ drained-course v h ∙ ap course_of steady.same ∙ course-same s v.around.is_master k

        none : until_down self k st ≡ []
        none = until-none k st (λ going. sym (fits.1 refl (ap is_going course ∙ going)) ∙ ends.1)

        marks : marks_of (history_from v (after v h Item.Drained) is) ≡ marks_of (after self k Item.Drained)
        marks = ends.0 ∙ marks_here (after v h Item.Drained) (after self k Item.Drained)
            (ap (λ (x : History). after v x Item.Drained) steady.same ∙ same-drained v ids s allowed k (rw steady.same at steady.there) steady.alone)
    live (i ∷ is) h k st steady taken fits = let f = first v h i is taken in absurd (grind (arith, f.may, f.plain, steady.live, steady.calm.closed, steady.calm.none_got))

  -- ---- the gates

  abbrev entered : History
  entered = Took Item.Entered ∷ []

  abbrev passed_first : ModeId → History
  passed_first m = Printed Mark.StartupHook ∷ Took (Item.Pass1 (Agreement.Mode m)) ∷ entered

  module _ (m : ModeId) (mode : v.own.mode ≡ Named m) (start : v.own.start ≡ []) (own : CoreSet) (own_in : has_core own v.core ≡ true) where
    -- The stimuli among these that are ahead of the core.
    abbrev ahead : List Stimulus → List Stimulus
    ahead st = ahead_of self m own st

    abbrev readied : History
    readied = Took Item.Readied ∷ passed_first m

    calm_before : (b : Bool) → Calm (among own (base_of b) readied)
    calm_before b = record { closed = grind arith; empty = grind arith; none_got = grind arith }

    gate-calm : Calm (after self readied (Item.Pass2 own))
    gate-calm = calm-after self allow_alone readied (Item.Pass2 own) refl (record { closed = refl; empty = refl; none_got = refl })

    steady-first : (s : CoreSet) (h : History) → h ≡ here own readied → has_core s v.core ≡ true → Steady s (after v h (Item.Pass2 s)) (after self readied (Item.Pass2 own))
    steady-first s h same s_in = record {
      same = ap (λ (x : History). after v x (Item.Pass2 s)) same ∙ same-gate v ids s allowed readied own s_in own_in;
      live = phase-after v h (Item.Pass2 s);
      calm = calm-after v allowed h (Item.Pass2 s) refl (rw same (calm_before v.around.is_master));
      there = rw (started-after v h (Item.Pass2 s)) s_in;
      alone = rw (started-after self readied (Item.Pass2 own)) own_in;
    }

    -- The same holds from each gate on, and from the start of each part before the gates.
    second : (items : List Item) (h : History) (st : List Stimulus) → h ≡ here own readied → Taken v h items → FitsIn h items st → Goes v self h readied items (Item.Pass2 own ∷ live_items (ahead st))
    second [] h st same taken fits = stops v self h readied (Item.Pass2 own ∷ live_items (ahead st)) (marks_here own h readied same)
    second (Item.Pass2 s ∷ is) h st same taken fits =
        let f = first v h (Item.Pass2 s) is taken in
        live s is (after v h (Item.Pass2 s)) (after self readied (Item.Pass2 own)) st (steady-first s h same (grind (arith, f.may))) f.rest fits
    second (i ∷ is) h st same taken fits = let f = first v h i is taken in absurd (grind (arith, f.may, f.plain, ap (phase_at v) same))

    between : (items : List Item) (h : History) (st : List Stimulus) → h ≡ here own (passed_first m) → Taken v h items → FitsIn h items st → Goes v self h (passed_first m) items (Item.Readied ∷ Item.Pass2 own ∷ live_items (ahead st))
    between [] h st same taken fits = stops v self h (passed_first m) (Item.Readied ∷ Item.Pass2 own ∷ live_items (ahead st)) (marks_here own h (passed_first m) same)
    between (Item.Readied ∷ is) h st same taken fits = second is (after v h Item.Readied) st (ap (λ (x : History). after v x Item.Readied) same) (first v h Item.Readied is taken).rest fits
    between (i ∷ is) h st same taken fits = let f = first v h i is taken in absurd (grind (arith, f.may, f.plain, ap (phase_at v) same))

    abbrev after_entering : List Stimulus → List Item
    after_entering st = Item.Pass1 (Agreement.Mode m) ∷ Item.Readied ∷ Item.Pass2 own ∷ live_items (ahead st)

    agreed : (a : Agreement) → is_disturbance (Item.Pass1 a) ≡ false → is_agreement v v.own.mode a ≡ true → a ≡ Agreement.Mode m
    agreed a plain may = grind (arith, plain, may, mode)

    gate : (items : List Item) (h : History) (st : List Stimulus) → h ≡ here own entered → Taken v h items → FitsIn h items st → Goes v self h entered items (after_entering st)
    gate [] h st same taken fits = stops v self h entered (after_entering st) (marks_here own h entered same)
    gate (Item.Pass1 a ∷ is) h st same taken fits =
        let f = first v h (Item.Pass1 a) is taken in
        let mine = agreed a f.plain (grind (arith, f.may)) in
        between is (after v h (Item.Pass1 a)) st (λ j. after v (same j) (Item.Pass1 (mine j))) f.rest fits
    gate (i ∷ is) h st same taken fits = let f = first v h i is taken in absurd (grind (arith, f.may, f.plain, ap (phase_at v) same))

    boot : (items : List Item) (h : History) (st : List Stimulus) → h ≡ base_of v.around.is_master → Taken v h items → FitsIn h items st → Goes v self h [] items (boot_items self m own st)
    boot [] h st same taken fits = stops v self h [] (boot_items self m own st) (marks_here own h [] same)
    boot (Item.Entered ∷ is) h st same taken fits = gate is (after v h Item.Entered) st (ap (λ (x : History). after v x Item.Entered) same) (first v h Item.Entered is taken).rest fits
    boot (i ∷ is) h st same taken fits = let f = first v h i is taken in absurd (grind (arith, f.may, f.plain, start, ap (phase_at v) same ∙ phase-same own v.around.is_master []))

    off : v.around.is_master ≡ false → (items : List Item) (st : List Stimulus) → Taken v [] items → FitsIn [] items st → Goes v self [] [] items (boot_items self m own st)
    off other [] st taken fits = stops v self [] [] (boot_items self m own st) refl
    off other (Item.On ∷ is) st taken fits = boot is (Took Item.On ∷ []) st (ap base_of (sym other)) (first v [] Item.On is taken).rest fits
    off other (i ∷ is) st taken fits = let f = first v [] i is taken in absurd (grind (arith, other, f.may, f.plain))

    -- The same holds for all items that a core took, from the first on.
    pub goes-alone : (items : List Item) (st : List Stimulus) → Taken v [] items → FitsIn [] items st → Goes v self [] [] items (boot_items self m own st)
    goes-alone items st taken fits = by v.around.is_master refl
      where
        by : (b : Bool) → v.around.is_master ≡ b → Goes v self [] [] items (boot_items self m own st)
        by true e = boot items [] st (ap base_of (sym e)) taken fits
        by false e = off e items st taken fits

    -- ---- alone, each of these items may be taken in turn

    abbrev Goes_on : History → List Item → Type 0
    Goes_on k items = solo_from self k items ≡ Some (history_from self k items)

    takes-next : (k : History) (i : Item) (is : List Item) → item_count k < 2 ^ 48 → admits outbox_size (state_of self k) i ≡ true → Goes_on (after self k i) is → Goes_on k (i ∷ is)
    takes-next k i is room may rest = grind (arith, room, may, rest)

    drain-alone : (k : History) → phase_at self k ≡ Phase.Live → Calm k → item_count k < 2 ^ 48 → Goes_on k (live_items [])
    drain-alone k at calm room = takes-next k Item.Drained [] room (grind (arith, at, settled self k calm)) refl

    live-alone : (st : List Stimulus) (k : History) → phase_at self k ≡ Phase.Live → Calm k → list_all (knows_stimulus v.own) st ≡ true → item_count k + suc (length st) ≤ 2 ^ 48 → Goes_on k (live_items (until_down self k st))
    live-alone [] k at calm all few = drain-alone k at calm (omega arith)
    live-alone (x ∷ xs) k at calm all few =
        let parts = and_parts (knows_stimulus v.own x) (list_all (knows_stimulus v.own) xs) all in
        let next = after self k (Item.Stim x) in
        let still = calm-after self allow_alone k (Item.Stim x) refl calm in
        let later = until_down self next xs in
        let rest = live-alone xs next (phase-after self k (Item.Stim x) ∙ at) still parts.1 (omega (arith, few, count-after self k (Item.Stim x))) in
        cond_both (is_going (course_of k)) (x ∷ later) [] (λ (ys : List Stimulus). Goes_on k (live_items ys))
        (λ going. takes-next k (Item.Stim x) (live_items later) (omega arith) (grind (arith, at, parts.0, calm-goes self k calm going)) rest)
        (λ down. drain-alone k at calm (omega arith))

    -- Up to the second gate only an empty start list and the core's own mode matter.
    pub solo-alone : are_started_cores self own ≡ true → (st : List Stimulus) → list_all (knows_stimulus v.own) st ≡ true → 4 + suc (length st) ≤ 2 ^ 48 → solo self (boot_items self m own st) ≡ Some (history_from self [] (boot_items self m own st))
    solo-alone known st all few =
        takes-next [] Item.Entered (after_entering st) (omega arith) (grind (arith, start))
        (takes-next entered (Item.Pass1 (Agreement.Mode m)) (Item.Readied ∷ Item.Pass2 own ∷ live_items (ahead st)) (omega arith) (grind (arith, mode))
        (takes-next (passed_first m) Item.Readied (Item.Pass2 own ∷ live_items (ahead st)) (omega arith) refl
        (takes-next readied (Item.Pass2 own) (live_items (ahead st)) (omega arith) known
        (live-alone st (after self readied (Item.Pass2 own)) (phase-after self readied (Item.Pass2 own)) gate-calm all (omega (arith, count-after self readied (Item.Pass2 own)))))))
