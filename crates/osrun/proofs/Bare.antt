-- Without its objects, a core can still take those of its items that a core without objects takes.
use Rattle.std.proofs.Common.{◌≡◌, ◌^◌, nat_lt, ◌≤◌, true, false, Some, List, [], ◌∷◌, filter, refl, sym, ap, ◌∙◌, arith}
use Rattle.std.proofs.lemmas.Bool.{and_from, and_parts, lt-ltb, ltb-true, true≢false}
use Rattle.osbase.specs.declared.items.Item.{Item}
use Rattle.osbase.specs.History.{History, Took, began_count, course_of, item_count, phase_on, started_cores}
use Rattle.osbase.specs.Phases.{is_going}
use Rattle.oscript.specs.Rows.{asks_shared, halts_all}
use Rattle.osplan.specs.View.{View}
use Rattle.osgroup.specs.Groups.{bare_core}
use Rattle.osacts.specs.Acts.{does}
use Rattle.osservice.proofs.{Called.locks-none, Kept.anybody, Kept.nobody}
use Rattle.osstate.specs.{Readings.phase_at, State.state_of}
use Rattle.osadmit.specs.Admission.{admits, has_asked_halt, may_halt}
use Rattle.osawait.specs.Free.{may_look_halt}
use Rattle.oskernel.specs.Step.{after, effect, history_from, outbox_size, solo_from, takes}
use Rattle.oskernel.proofs.{Calm.Calm, Calm.calm-after, Calm.settled, Carried.NamesAllow, Stages.is_mail}
use Rattle.oskernel.proofs.Scripts.{names-allow, script-fails, script-none}
use Rattle.osrun.specs.Groups.{is_bare_item}
use Rattle.osrun.proofs.Going.{dispatch-course, going-before}
use Rattle.osrun.proofs.Longer.{solo-takes}
use Rattle.osrun.proofs.Readings.{began-after, count-after, phase-after, started-after}

-- The items among these that a core without objects takes.
abbrev pub bare_items : List Item → List Item
bare_items items = filter is_bare_item items

pub bare-mail : (i : Item) → is_bare_item i ≡ true → is_mail i ≡ false
bare-mail i b = grind arith

module _ (v : View) where
  abbrev pub bare : View
  bare = record v { own = bare_core v.own }

  -- Without its objects, the core asks nobody for anything, since it has no script, alarm or schedule table.
  allowed : NamesAllow bare nobody
  allowed = names-allow bare nobody anybody refl (λ object e. absurd (true≢false e))
      (λ r n op e. locks-none nobody op (script-fails bare.own asks_shared refl r n op e)) (script-none bare.own asks_shared refl) (script-none bare.own halts_all refl)

  -- After its part of the same items, the core without objects is in the same phase as the core, and no call is open.
  pub record Alike (h k : History) : Type 0 where
    pub phase : phase_at v h ≡ phase_at bare k
    pub began : began_count h ≡ began_count k
    pub started : started_cores h ≡ started_cores k
    pub count : item_count k ≤ item_count h
    pub calm : Calm k
    pub going : is_going (course_of h) ≡ true → is_going (course_of k) ≡ true

  pub alike-first : Alike [] []
  alike-first = record { phase = refl; began = refl; started = refl; count = omega arith; calm = record { closed = refl; empty = refl; none_got = refl }; going = λ g. g }

  -- The core without objects goes down only if the core does.
  going-on : (h k : History) (i : Item) → is_bare_item i ≡ true → (is_going (course_of h) ≡ true → is_going (course_of k) ≡ true) → is_going (course_of (after v h i)) ≡ true → is_going (course_of (after bare k i)) ≡ true
  going-on h k i b before going =
      grind (arith, dispatch-course v (does (effect i) v (Took i ∷ h)), dispatch-course bare (does (effect i) bare (Took i ∷ k)), before (going-before v h i going))

  -- Both stay alike at an item that both take, and at one that only the core takes.
  pub keeps : (h k : History) (i : Item) → is_bare_item i ≡ true → Alike h k → Alike (after v h i) (after bare k i)
  keeps h k i b a = record {
    phase = phase-after v h i ∙ ap (phase_on i) a.phase ∙ sym (phase-after bare k i);
    began = grind (arith, began-after v h i, began-after bare k i, a.began);
    started = grind (arith, started-after v h i, started-after bare k i, a.started);
    count = omega (arith, count-after v h i, count-after bare k i, a.count);
    calm = calm-after bare allowed k i (bare-mail i b) a.calm;
    going = going-on h k i b a.going;
  }

  pub skips : (h k : History) (i : Item) → is_bare_item i ≡ false → Alike h k → Alike (after v h i) k
  skips h k i b a = record {
    phase = grind (arith, phase-after v h i, b, a.phase);
    began = grind (arith, began-after v h i, b, a.began);
    started = grind (arith, started-after v h i, b, a.started);
    count = omega (arith, count-after v h i, a.count);
    calm = a.calm;
    going = λ going. a.going (going-before v h i going);
  }

  -- ---- what it may take

  -- If the core may halt and did not ask for the shutdown itself, the core without objects may look for it.
  pub looks-halt : (h k : History) → Alike h k → has_asked_halt (state_of v h) ≡ false → may_halt (state_of v h) ≡ true → may_look_halt (state_of bare k) ≡ true
  looks-halt h k a never may = rw (a.calm.closed, a.calm.none_got) (grind (arith, never, may, a.going))

  admitted : (h k : History) (i : Item) → is_bare_item i ≡ true → Alike h k → has_asked_halt (state_of v h) ≡ false → admits outbox_size (state_of v h) i ≡ true → admits outbox_size (state_of bare k) i ≡ true
  admitted h k i b a never may = grind (arith, b, may, a.phase, a.began, settled bare k a.calm, looks-halt h k a never)

  pub takes-bare : (h k : History) (i : Item) (is : List Item) → is_bare_item i ≡ true → Alike h k → has_asked_halt (state_of v h) ≡ false → solo_from v h (i ∷ is) ≡ Some (history_from v h (i ∷ is)) → takes outbox_size bare k i ≡ true
  takes-bare h k i is b a never each =
      let parts = and_parts (nat_lt (item_count h) (2 ^ 48)) (admits outbox_size (state_of v h) i) (solo-takes v h i is each) in
      and_from _ _ (lt-ltb (item_count k) (2 ^ 48) (omega (arith, a.count, ltb-true (item_count h) (2 ^ 48) parts.0))) (admitted h k i b a never parts.1)
