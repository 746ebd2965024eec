-- What follows from one count of a counter, and how many letters it adds to the outbox at most.
use Rattle.std.specs.Prelude.{ℕ, ◌+◌, ◌*◌, if◌then◌else◌, Bool, false, length, suc, sum_by}
use Rattle.std.specs.Option.{option_map_or}
use Rattle.osbase.specs.{declared.references.AlarmRef.AlarmRef, declared.references.CounterRef.CounterRef, declared.references.TableRef.TableRef, History.CounterIncremented}
use Rattle.osplan.specs.{declared.plans.Alarm.Alarm, declared.plans.Core.Core, Objects.most_posts_of_table, Objects.is_posting, View.own_alarm, View.own_table}
use Rattle.osclock.specs.Clocks.{attached_to}
use Rattle.ostable.specs.Tables.{timed_by}
use Rattle.osacts.specs.Acts.{Acts, Notes, both, look, one_then}
use Rattle.osexpiry.specs.{Expiring.expire_each, ExpiryPoints.process_tables}

-- The counter is incremented. Then the alarms that expire at this count act, in index order, and then the due schedule
-- tables. [OSEK/VDX OS 2.2.3, section 9.1 and 9.2; AUTOSAR SWS OS 4.x, section 7.3; the order: own]
abbrev pub counts : CounterRef → Acts
counts c = look (λ s. one_then (Notes (CounterIncremented c)) (both (expire_each (s.due c)) (process_tables (s.due_tables c))))

-- ---- how many letters join the outbox, at most

-- The core's alarm acts on another core's task.
abbrev pub posts_by : Core → AlarmRef → Bool
posts_by core a = option_map_or (λ (alarm : Alarm). is_posting core alarm.action) (own_alarm core a) false

-- How many letters the core's alarm posts at most when it expires.
abbrev pub posted_for : Core → AlarmRef → ℕ
posted_for core a = if posts_by core a then 1 else 0

-- The most letters that a schedule table of the core posts at one count: as many as the point that posts most.
abbrev pub most_posted_of_table : Core → TableRef → ℕ
most_posted_of_table core s = option_map_or (most_posts_of_table core) (own_table core s) 0

-- The most letters that the counter's alarms and schedule tables post at one count.
abbrev pub posted_by : Core → CounterRef → ℕ
posted_by core c = sum_by (posted_for core) (attached_to core c) + sum_by (most_posted_of_table core) (timed_by core c)

-- The most entries that one count of the counter adds: the count's own note, 3 for each of the counter's alarms, and 38
-- for each of its schedule tables. [own]
abbrev pub count_entries : Core → CounterRef → ℕ
count_entries core c = suc (3 * length (attached_to core c) + 38 * length (timed_by core c))

-- The most marks that one count adds: 3 for each of the counter's alarms, and 36 for each of its schedule tables.
abbrev pub count_marks : Core → CounterRef → ℕ
count_marks core c = 3 * length (attached_to core c) + 36 * length (timed_by core c)
