-- A core prints marks of its own objects, and of those of cores that it may ask; and the runner whose call is open is
-- of one of these.
use native.Mathlib.Omega.{arith}
use Rattle.std.proofs.Common.{◌≡◌, Bool, true, Some, List, [], ◌∷◌, refl, ap, ◌∙◌}
use Rattle.std.specs.List.{list_all}
use Rattle.std.proofs.{lemmas.Bool.and_parts, lemmas.List.Folds.list_all-append}
use Rattle.osbase.specs.{declared.references.CoreId.CoreId, declared.references.IsrRef.IsrRef, declared.references.Runner.Runner, declared.items.Item.Item, declared.items.Stimulus.Stimulus, declared.histories.Job.Job, declared.histories.OpenCall.OpenCall, declared.messages.RemoteCall.RemoteCall, Interrupts.isr_jobs, Marks.core_of_runner, Marks.names_only, Objects.object_of_call}
use Rattle.osbase.specs.History.{Entry, History, current_task, live_jobs, marks_of, same_core}
use Rattle.osbase.proofs.Same.{same_core-true}
use Rattle.oscall.specs.Border.{core_of_call}
use Rattle.osplan.specs.{Objects.has_index, Stimuli.knows_stimulus, View.View}
use Rattle.osstate.specs.{Readings.is_served, Readings.running, State.state_of}
use Rattle.ostable.proofs.Asked.{dues-own}
use Rattle.osservice.proofs.Kept.{Leave, anybody, is_within, turns-shown}
use Rattle.osservice.proofs.Partners.{Partner}
use Rattle.osadmit.specs.Admission.{admits}
use Rattle.oskernel.specs.Step.{after, history_from, outbox_size, solo_from}
use Rattle.oskernel.proofs.Carried.{NamesActing, NamesAllow, is_replied, passes}
use Rattle.oskernel.proofs.{Idling.best-passes, Idling.running-passes, JobLists.anew-all, JobLists.without-all, Holding.Holds, Holding.holds-named, Opened.Opens, Opened.opens-local, Opened.opens-took, Stages.solo-parts}

-- ---- who acts: jobs begin by marks, and tasks run by them

module _ (own : CoreId → Bool) where
  abbrev own_runner : Runner → Bool
  own_runner r = own (core_of_runner r)

  abbrev own_job : Job → Bool
  own_job j = own_runner j.runner

  -- Each live job is of such a core, and so is the current task.
  record ActOwn (h : History) : Type 0 where
    pub jobs : list_all own_job (live_jobs h) ≡ true
    pub isrs : list_all own_job (isr_jobs h) ≡ true
    pub current : passes (current_task h) (λ t. own t.core) ≡ true

  -- An entry keeps this if it is no mark, or if its mark names objects of such cores alone.
  more-own : (e : Entry) (h : History) → list_all (names_only own) (marks_of (e ∷ h)) ≡ true → ActOwn h → ActOwn (e ∷ h)
  more-own e h all p = record {
    jobs = grind (arith, list_all-append (names_only own) (marks_of h), list_all-append own_job (live_jobs h), anew-all own_job, without-all own_job, p.jobs, all);
    isrs = grind (arith, list_all-append (names_only own) (marks_of h), list_all-append own_job (isr_jobs h), without-all own_job, p.isrs, all);
    current = grind (arith, list_all-append (names_only own) (marks_of h), p.current, all);
  }

  earlier : (e : Entry) (h : History) → list_all (names_only own) (marks_of (e ∷ h)) ≡ true → list_all (names_only own) (marks_of h) ≡ true
  earlier e h all = grind (arith, list_all-append (names_only own) (marks_of h), all)

  act-own : (h : History) → list_all (names_only own) (marks_of h) ≡ true → ActOwn h
  act-own [] all = record { jobs = refl; isrs = refl; current = refl }
  act-own (e ∷ h) all = more-own e h all (act-own h (earlier e h all))

-- ---- what the core prints

-- Its marks name objects of such cores alone, and the runner whose call is open is of such a core.
pub record Inside (names : CoreId → Bool) (h : History) : Type 0 where
  pub own : list_all (names_only names) (marks_of h) ≡ true
  pub caller : Opens (λ (call : OpenCall). names (core_of_runner call.runner)) h

module _ (v : View) (may : Partner → Bool) (names : CoreId → Bool) (allowed : NamesAllow v may) (named : (core : CoreId) → is_within v may core ≡ true → names core ≡ true) (own_named : names v.own.id ≡ true) where
  abbrev leave_inside : Leave
  leave_inside = record { view = v; may = may; answered = anybody; names = names; named = named; own_named = own_named }

  acting : (h : History) → Inside names h → NamesActing leave_inside h
  acting h p =
      let own = act-own names h p.own in
      let best = best-passes v h (own_job names) own.jobs own.isrs in
      let runs : passes (running v h) (own_job names) ≡ true = running-passes v h (own_job names) own.jobs own.isrs in
      record { seen = record { id = refl; core = refl; due_tables = λ c. dues-own v.own c h; running = grind (arith, runs); awaits = p.caller; turns = λ a start here. turns-shown v.own a start h here }; current = own.current; next = grind (arith, best) }

  inside-holds : Holds may anybody names (Inside names)
  inside-holds = record {
    local = λ e h is p. record { own = grind (arith, list_all-append (names_only names) (marks_of h), p.own, is); caller = opens-local _ names e h is p.caller };
    asked = λ core message h m p. record { own = p.own; caller = p.caller };
    replied = λ core s value h m p. record { own = p.own; caller = p.caller };
    opened = λ call h m n p. record { own = p.own; caller = n };
  }

  -- The core takes interrupts of its own ISRs, and calls to its own objects, alone.
  isr-own : (isr : IsrRef) → knows_stimulus v.own (Stimulus.Irq isr) ≡ true → names isr.core ≡ true
  isr-own isr known = ap names (same_core-true isr.core v.own.id (grind (arith, known))) ∙ own_named

  call-own : (call : RemoteCall) → is_served v call ≡ true → names (core_of_call call) ≡ true
  call-own call served =
      ap names (same_core-true (core_of_call call) v.own.id (and_parts (same_core (core_of_call call) v.own.id) (has_index v.own (object_of_call call)) served).0) ∙ own_named

  item-named : (h : History) (i : Item) → admits outbox_size (state_of v h) i ≡ true → is_replied anybody names i ≡ true
  item-named h i may = grind (arith, isr-own, call-own, may)

  -- Items that may be taken in turn keep this.
  pub inside-items : (items : List Item) (h : History) → solo_from v h items ≡ Some (history_from v h items) → Inside names h → Inside names (history_from v h items)
  inside-items [] h each p = p
  inside-items (i ∷ is) h each p =
      let turn = solo-parts v h i is each in
      inside-items is (after v h i) turn.1
      (holds-named leave_inside (Inside names) inside-holds allowed acting h i (item-named h i turn.0) (record { own = p.own; caller = opens-took _ i h p.caller }))
