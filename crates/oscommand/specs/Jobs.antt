-- The files of a job. [own]
use Rattle.std.specs.Prelude.{ℕ, List, [], ◌∷◌, ◌++◌, Option, Some, None, option_map}
use Rattle.std.specs.Borrow.{Bor}
use Rattle.oscommand.specs.declared.jobs.Job.{Job}
use Rattle.oscommand.specs.declared.jobs.Job.TheVariants.{Run, Check, Cut, Groups, Group, Replay, Threads}

abbrev pub config_path : Job → List ℕ
config_path (Run config stimuli schedule items) = config.now
config_path (Check config) = config.now
config_path (Cut config core) = config.now
config_path (Groups config) = config.now
config_path (Group config core) = config.now
config_path (Replay config core log) = config.now
config_path (Threads config stimuli turns mail print) = config.now

-- The path of the stimuli of `run` and `threads`, or of the log of `replay`. Other jobs have none.
abbrev pub stimuli_path : Job → Option (List ℕ)
stimuli_path (Run config stimuli schedule items) = Some stimuli.now
stimuli_path (Check config) = None
stimuli_path (Cut config core) = None
stimuli_path (Groups config) = None
stimuli_path (Group config core) = None
stimuli_path (Replay config core log) = Some log.now
stimuli_path (Threads config stimuli turns mail print) = Some stimuli.now

-- The text of a borrowed path, if there is one.
abbrev pub path_in : Option (Bor (List ℕ)) → Option (List ℕ)
path_in path = option_map (λ (p : Bor (List ℕ)). p.now) path

-- The path of the schedule of `run`, if one is given. Other jobs have none.
abbrev pub schedule_path : Job → Option (List ℕ)
schedule_path (Run config stimuli schedule items) = path_in schedule
schedule_path (Check config) = None
schedule_path (Cut config core) = None
schedule_path (Groups config) = None
schedule_path (Group config core) = None
schedule_path (Replay config core log) = None
schedule_path (Threads config stimuli turns mail print) = None

-- The list of the path alone, or the empty list if there is no path.
abbrev pub listed : Option (List ℕ) → List (List ℕ)
listed None = []
listed (Some path) = path ∷ []

-- The paths of the job's files, in the order in which the files are read and judged.
abbrev pub paths_of : Job → List (List ℕ)
paths_of job = config_path job ∷ (listed (stimuli_path job) ++ listed (schedule_path job))
