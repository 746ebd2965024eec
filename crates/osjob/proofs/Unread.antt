-- A job and its paths, and its outcome if there was no memory for them.
use Rattle.std.proofs.Common.{◌≡◌, ◌∙◌, ℕ, List, [], Option, Err, ap, arith, map, refl, sym, length}
use Rattle.std.proofs.lemmas.List.{length-map}
use Rattle.std.specs.Borrow.{Bor}
use Rattle.osplan.specs.declared.faults.ConfFault.TheVariants.{NoMemory}
use Rattle.osjob.specs.{declared.faults.Fault.TheVariants.Text, declared.faults.Fault.TheVariants.Unreadable, Performs.HasNoOutput, Performs.fails, Program.PrintsJob, Runs.at_config, Texts.File}
use Rattle.oscommand.specs.{declared.jobs.Job.Job, Jobs.paths_of}
use Rattle.oscommand.specs.declared.jobs.Job.TheVariants.{Run}

-- the list of a job's paths has as many elements as the job has paths
pub listed_paths : (paths : List (Bor (List ℕ))) (job : Job) → map (λ (path : Bor (List ℕ)). path.now) paths ≡ paths_of job → length paths ≡ length (paths_of job)
listed_paths paths job are = sym (length-map paths (λ (path : Bor (List ℕ)). path.now)) ∙ ap length are

no_memory-output : (job : Job) (files : List File) → HasNoOutput job files (Text NoMemory)
no_memory-output (Run config stimuli schedule items) files = λ apart. absurd (apart refl)
no_memory-output job files = λ apart. absurd (apart refl)

readable : Text NoMemory ≡ Unreadable → ⊥
readable e = cc

-- if there was no memory for the paths, nothing was read and nothing printed
pub unread : {O : Type 0} (taken : O → Option (List ℕ)) (failed : O → ℕ) (out : O) (job : Job) → PrintsJob taken failed out out job (Err (Text NoMemory))
unread taken failed out job = record {
  files = [];
  prints = record { comes = fails (Text NoMemory) refl (no_memory-output job []) refl; asked = λ e. absurd (readable e) };
  stops = at_config (omega arith);
  named = omega arith;
}
