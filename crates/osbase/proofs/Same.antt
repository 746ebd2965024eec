-- References that test as the same are equal, and each tests as the same as itself.
use Rattle.std.proofs.Common.{◌≡◌, ℕ, Bool, true, false, nat_eq, refl, ap, sym, ◌∙◌}
use Rattle.std.proofs.lemmas.Bool.{eqb-true, eq-eqb, and_parts, and_from, false≢true}
use Rattle.osbase.specs.{declared.objects.ObjectKind.ObjectKind, declared.references.CoreId.CoreId, declared.references.TaskRef.TaskRef, declared.references.IsrRef.IsrRef, declared.references.AlarmRef.AlarmRef, declared.references.CounterRef.CounterRef, declared.references.TableRef.TableRef, declared.objects.Place.Place, Counting.same_alarm, Counting.same_counter, Counting.same_table, declared.references.Runner.Runner}
use Rattle.osbase.specs.declared.objects.ObjectKind.TheVariants.{Mode, Spinlock, Task, Isr, Resource, Counter, Alarm, Table}
use Rattle.osbase.specs.Objects.{alarm_of, alarm_place, counter_of, counter_place, isr_of, isr_place, place_on, same_kind, same_place, table_of, table_place, task_of, task_place}
use Rattle.osbase.specs.History.{same_core, same_task, same_isr, same_runner}

pub same_core-true : (a b : CoreId) → same_core a b ≡ true → a ≡ b
same_core-true a b e = ap (λ (n : ℕ). let c : CoreId = record { number = n } in c) (eqb-true a.number b.number e)

pub same_core-refl : (a : CoreId) → same_core a a ≡ true
same_core-refl a = eq-eqb a.number a.number refl

-- The test is symmetric.
pub same_core-comm : (a b : CoreId) → same_core a b ≡ same_core b a
same_core-comm a b = cases (same_core a b) (same_core b a) refl refl
  where
    cases : (x y : Bool) → same_core a b ≡ x → same_core b a ≡ y → x ≡ y
    cases true true e f = refl
    cases false false e f = refl
    cases true false e f = absurd (false≢true (sym f ∙ eq-eqb b.number a.number (sym (eqb-true a.number b.number e))))
    cases false true e f = absurd (false≢true (sym e ∙ eq-eqb a.number b.number (sym (eqb-true b.number a.number f))))

pub same_place-true : (p q : Place) → same_place p q ≡ true → p ≡ q
same_place-true p q e =
    let both = and_parts (same_core p.core q.core) (nat_eq p.index q.index) e in
    ap (λ (c : CoreId). place_on c p.index) (same_core-true p.core q.core both.0) ∙ ap (place_on q.core) (eqb-true p.index q.index both.1)

pub same_place-refl : (p : Place) → same_place p p ≡ true
same_place-refl p = and_from (same_core p.core p.core) (nat_eq p.index p.index) (same_core-refl p.core) (eq-eqb p.index p.index refl)

-- The same holds for references of each kind, by their places.
pub same_task-true : (a b : TaskRef) → same_task a b ≡ true → a ≡ b
same_task-true a b e = ap task_of (same_place-true (task_place a) (task_place b) e)

pub same_task-refl : (a : TaskRef) → same_task a a ≡ true
same_task-refl a = same_place-refl (task_place a)

pub same_isr-true : (a b : IsrRef) → same_isr a b ≡ true → a ≡ b
same_isr-true a b e = ap isr_of (same_place-true (isr_place a) (isr_place b) e)

pub same_counter-true : (a b : CounterRef) → same_counter a b ≡ true → a ≡ b
same_counter-true a b e = ap counter_of (same_place-true (counter_place a) (counter_place b) e)

pub same_counter-refl : (a : CounterRef) → same_counter a a ≡ true
same_counter-refl a = same_place-refl (counter_place a)

pub same_alarm-true : (a b : AlarmRef) → same_alarm a b ≡ true → a ≡ b
same_alarm-true a b e = ap alarm_of (same_place-true (alarm_place a) (alarm_place b) e)

pub same_alarm-refl : (a : AlarmRef) → same_alarm a a ≡ true
same_alarm-refl a = same_place-refl (alarm_place a)

pub same_table-true : (a b : TableRef) → same_table a b ≡ true → a ≡ b
same_table-true a b e = ap table_of (same_place-true (table_place a) (table_place b) e)

pub same_table-refl : (a : TableRef) → same_table a a ≡ true
same_table-refl a = same_place-refl (table_place a)

pub same_runner-true : (a b : Runner) → same_runner a b ≡ true → a ≡ b
same_runner-true (Runner.Task a) (Runner.Task b) e = ap Runner.Task (same_task-true a b e)
same_runner-true (Runner.Isr a) (Runner.Isr b) e = ap Runner.Isr (same_isr-true a b e)
same_runner-true (Runner.Task a) (Runner.Isr b) e = cc
same_runner-true (Runner.Isr a) (Runner.Task b) e = cc

pub same_runner-refl : (r : Runner) → same_runner r r ≡ true
same_runner-refl (Runner.Task t) = same_task-refl t
same_runner-refl (Runner.Isr i) = same_place-refl (isr_place i)

pub same_kind-true : (k j : ObjectKind) → same_kind k j ≡ true → k ≡ j
same_kind-true Mode Mode e = refl
same_kind-true Spinlock Spinlock e = refl
same_kind-true Task Task e = refl
same_kind-true Isr Isr e = refl
same_kind-true Resource Resource e = refl
same_kind-true Counter Counter e = refl
same_kind-true Alarm Alarm e = refl
same_kind-true Table Table e = refl
same_kind-true k j e = absurd (false≢true e)

pub same_kind-self : (k : ObjectKind) → same_kind k k ≡ true
same_kind-self Mode = refl
same_kind-self Spinlock = refl
same_kind-self Task = refl
same_kind-self Isr = refl
same_kind-self Resource = refl
same_kind-self Counter = refl
same_kind-self Alarm = refl
same_kind-self Table = refl
