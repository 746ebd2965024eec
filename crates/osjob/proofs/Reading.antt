-- What was read of a job's files, and what of it still holds later.
use Rattle.std.proofs.Common.{◌≡◌, ◌≢◌, ◌⊎◌, ◌+◌, ◌<◌, ◌≤◌, ◌∙◌, inl, inr, ap, arith, refl, ℕ, List, Option, Some, None, Result, Ok, Vec, length, max, get_or, option_map, option_and_then, slice_get}
use Rattle.std.specs.{List.Contains, Prelude.IsErrAnd, declared.alloc.Global.Global}
use Rattle.std.proofs.{lemmas.Bool.cases_lt, lemmas.Option.slice_get-get_or, lemmas.Option.slice_get_within, lemmas.Result.err_from_is_err_and}
use Rattle.osbase.specs.{declared.references.CoreId.CoreId, declared.turns.Choice.Choice, declared.turns.CoreStimuli.CoreStimuli}
use Rattle.osplan.specs.{declared.plans.Plan.Plan, declared.faults.ConfFault.ConfFault, declared.faults.ConfFault.TheVariants.NoMemory, Fault.IsLeast}
use Rattle.osinput.specs.Given.{stimuli_of_text}
use Rattle.osload.specs.Meaning.{config_of}
use Rattle.osjob.specs.{declared.faults.Fault.Fault, declared.faults.Fault.TheVariants.Text, Performs.IsInputFault, Performs.IsRead, Runs.Consumes, Runs.IsGiven, Runs.at_config, Runs.at_schedule, Runs.at_stimuli}
use Rattle.osjob.specs.Texts.{File, IsAsked, IsFaultOf, KeepsBelow, Means, bytes_at, text_at, text_in}

-- a reader's fault is the fault of the file
pub IsFaultOf-read : (faults : List ℕ → List ConfFault) (file : Result (List ℕ) Fault) (text : List ℕ) (read : ConfFault) (fault : Fault)
    → Ok text ≡ file → fault ≡ Text read → (read ≢ NoMemory → IsLeast read (faults text)) → fault ≢ Text NoMemory → IsFaultOf faults file fault
IsFaultOf-read faults file text read fault is named least apart = rw (← is, named) (least (λ same. apart (named ∙ ap Text same)))

-- a file that is unchanged keeps its meaning
Means-kept : {A : Type 0} (meaning : List ℕ → Option A) (old new : List File) (at : ℕ) (x : A) → bytes_at new at ≡ bytes_at old at
    → Means meaning (text_at old at) x → Means meaning (text_at new at) x
Means-kept meaning old new at x kept means = rw kept means

-- the configuration keeps its meaning while later files are read
pub config-kept : (old new : List File) (plan : Plan) → KeepsBelow 1 old new → Means config_of (text_at old 0) plan → Means config_of (text_at new 0) plan
config-kept old new plan keeps config = Means-kept config_of old new 0 plan (keeps 0 (omega arith)) config

pub IsGiven-read : (old new : List File) (plan : Plan) (stimuli : List CoreStimuli) → KeepsBelow 1 old new
    → Means config_of (text_at old 0) plan → Means (stimuli_of_text plan) (text_at new 1) stimuli → IsGiven new plan stimuli
IsGiven-read old new plan stimuli keeps config listed = record { config = config-kept old new plan keeps config; listed = listed }

-- the configuration and the stimuli keep their meanings while the schedule is read
pub IsGiven-kept : (old new : List File) (plan : Plan) (stimuli : List CoreStimuli) → KeepsBelow 2 old new → IsGiven old plan stimuli → IsGiven new plan stimuli
IsGiven-kept old new plan stimuli keeps given = record {
  config = Means-kept config_of old new 0 plan (keeps 0 (omega arith)) given.config;
  listed = Means-kept (stimuli_of_text plan) old new 1 stimuli (keeps 1 (omega arith)) given.listed;
}

-- a file that has a meaning was read
pub Means-there : {A : Type 0} (meaning : List ℕ → Option A) (files : List File) (at : ℕ) (x : A) → Means meaning (text_at files at) x → at + 1 ≤ length files
Means-there meaning files at x means = by (slice_get files at) refl means
  where
    by : (o : Option File) → slice_get files at ≡ o → Means meaning (text_in (option_map (λ (bytes : Vec ℕ Global). bytes.items) (option_and_then (λ (file : File). file) o))) x → at + 1 ≤ length files
    by None e none = absurd none
    by (Some file) e means = let within = slice_get_within files at file e in omega arith

-- If a file is absent and all before it were read, either all files were read, or one of them could not be read.
pub absent-asked : (count : ℕ) (files : List File) (at : ℕ) → (at < count → at < length files) → at ≤ length files → None ≡ bytes_at files at → (count ≤ length files) ⊎ Contains files None
absent-asked count files at read next absent = elim (cases_lt at (length files)) as (λ _. (count ≤ length files) ⊎ Contains files None) [
  | inl within ↦ inr (at, within, by (get_or files at None) refl (absent ∙ ap (λ (o : Option File). option_map (λ (bytes : Vec ℕ Global). bytes.items) (option_and_then (λ (file : File). file) o)) (slice_get-get_or files at None within)))
  | inr past ↦ elim (cases_lt at count) as (λ _. (count ≤ length files) ⊎ Contains files None) [
    | inl wanted ↦ let within = read wanted in absurd (omega arith)
    | inr read_all ↦ inl (omega arith)
  ]
]
  where
    by : (file : File) → get_or files at None ≡ file → None ≡ option_map (λ (bytes : Vec ℕ Global). bytes.items) file → get_or files at None ≡ None
    by None is e = is
    by (Some bytes) is e = cc

-- ---- what results from files

module _ {S : Type 0} (files : S → List File) (known : S → Option (List File)) where
  -- another result that follows for the same files
  pub Consumes-as : (source : S) (most : ℕ) (P Q : List File → Type 0) (used : Consumes files known source most P) → (P (files used.last) → Q (files used.last)) → Consumes files known source most Q
  Consumes-as source most P Q used f = record { last = used.last; comes = f used.comes; stops = used.stops; named = used.named; known_is = used.known_is }

  -- what results if at most one, two or three files were read
  pub Consumes-one : (source last : S) (most : ℕ) (P : List File → Type 0) → 1 ≤ most → length (files last) ≤ max (length (files source)) 1 → known last ≡ known source → P (files last)
      → Consumes files known source most P
  Consumes-one source last most P some ahead same comes = record { last = last; comes = comes; stops = at_config ahead; named = omega (arith, ahead); known_is = same }

  pub Consumes-two : (source last : S) (most : ℕ) (P : List File → Type 0) (plan : Plan) → Means config_of (text_at (files last) 0) plan → 2 ≤ most → length (files last) ≤ max (length (files source)) 2
      → known last ≡ known source → P (files last) → Consumes files known source most P
  Consumes-two source last most P plan config some ahead same comes = record { last = last; comes = comes; stops = at_stimuli plan config ahead; named = omega (arith, ahead); known_is = same }

  pub Consumes-three : (source last : S) (most : ℕ) (P : List File → Type 0) (plan : Plan) (stimuli : List CoreStimuli) → IsGiven (files last) plan stimuli → 3 ≤ most
      → length (files last) ≤ max (length (files source)) 3 → known last ≡ known source → P (files last) → Consumes files known source most P
  Consumes-three source last most P plan stimuli given some ahead same comes = record { last = last; comes = comes; stops = at_schedule plan stimuli given ahead; named = omega (arith, ahead); known_is = same }

-- if a fault was passed up, that fault is the result
pub IsRead-faulty : (schedule : Option (List ℕ)) (items : Option CoreId) (files : List File) (count : ℕ) (result : Result (Plan × List CoreStimuli × Option (List (CoreId × Choice))) Fault) (Passed : Fault → Type 0)
    → IsErrAnd result Passed → ((fault : Fault) → Passed fault → (fault ≢ Text NoMemory → IsInputFault schedule items files fault) × IsAsked count files fault) → IsRead schedule items files count result
IsRead-faulty schedule items files count result Passed is why = let p = err_from_is_err_and result is in rw p.1 (why p.0 p.2)
