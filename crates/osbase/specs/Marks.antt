-- The objects that a mark names, by their cores. A core's own number is no object.
use Rattle.std.specs.Prelude.{Bool, true}
use Rattle.osbase.specs.{declared.references.CoreId.CoreId, declared.references.Runner.Runner, declared.marks.Mark.Mark, Objects.object_of_call}

-- The core of a runner.
abbrev pub core_of_runner : Runner → CoreId
core_of_runner (Runner.Task t) = t.core
core_of_runner (Runner.Isr i) = i.core

-- The core of each object that the mark names passes this test. [own]
abbrev pub names_only : (CoreId → Bool) → Mark → Bool
names_only test (Mark.StartCoreReturned core status) = true
names_only test Mark.ModesConflict = true
names_only test Mark.StartupHook = true
names_only test (Mark.ErrorHook status) = true
names_only test (Mark.ProtectionHook status) = true
names_only test (Mark.ShutdownHook status) = true
names_only test (Mark.Activated t) = test t.core
names_only test (Mark.Terminated t) = test t.core
names_only test (Mark.PreTaskHook t) = test t.core
names_only test (Mark.PostTaskHook t) = test t.core
names_only test (Mark.EventSet t mask) = test t.core
names_only test (Mark.EventCleared t mask) = test t.core
names_only test (Mark.EventAwaited t mask) = test t.core
names_only test (Mark.Released t) = test t.core
names_only test (Mark.InterruptAccepted i) = test i.core
names_only test (Mark.InterruptLost i) = test i.core
names_only test (Mark.IsrEntered i) = test i.core
names_only test (Mark.IsrLeft i) = test i.core
names_only test Mark.Tick = true
names_only test (Mark.AlarmExpired a) = test a.core
names_only test (Mark.ExpiryPoint s offset) = test s.core
names_only test (Mark.TableStopped s) = test s.core
names_only test (Mark.TableBegun s) = test s.core
names_only test (Mark.CallQueued core call) = test (object_of_call call).place.core
names_only test (Mark.CallServed core status call) = test (object_of_call call).place.core
names_only test (Mark.CallAnswered core alarm variable value) = test alarm.core
names_only test (Mark.ServiceReturned runner service status) = test (core_of_runner runner)
names_only test (Mark.ValueReturned runner service value) = test (core_of_runner runner)
names_only test (Mark.VariableSet runner variable value) = test (core_of_runner runner)
names_only test (Mark.Halted core status) = true
