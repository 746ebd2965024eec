-- What the proofs of plans share: faults, and what holds of each element of a list or of an optional value.
use Rattle.std.proofs.Common.{◌≡◌, ◌≢◌, ◌⊎◌, ◌&&◌, ◌∙◌, Bool, true, false, List, [], Option, Some, None, is_some, unwrap_or, refl, sym, ap, inl, inr, arith}
use Rattle.std.specs.List.{list_all}
use Rattle.osplan.specs.{declared.faults.ConfFault.ConfFault, declared.faults.ConfFault.TheVariants.Limit, declared.faults.ConfFault.TheVariants.NoMemory, Fault.failing, Fault.first_fault}
use Rattle.osschema.proofs.Lists.{list_all-every}
use Rattle.osvalidate.specs.{Words.ConfigText, Check.are_scripts_short, Check.is_text_numbered, Check.is_text_within, Check.tests_of}
use Rattle.osvalidate.proofs.Counting.{within_split}

-- If there is no first fault, there is no fault.
pub no_fault : (faults : List ConfFault) → first_fault faults ≡ None → faults ≡ []
no_fault faults e = grind arith

-- If a text is past a limit, its first fault is Limit.
limited : (t : ConfigText) → is_text_within t ≡ false → first_fault (failing (tests_of t)) ≡ Some Limit
limited t past = rw past refl

pub past_numbers : (t : ConfigText) → is_text_numbered t ≡ false → first_fault (failing (tests_of t)) ≡ Some Limit
past_numbers t past = limited t (within_split t ∙ ap (λ b. b && are_scripts_short t) past)

-- The same holds if a script is found to have too many operations, and the reported fault is not that memory ran out.
pub past_scripts : (t : ConfigText) (fault : ConfFault) → is_text_numbered t ≡ true → (fault ≡ NoMemory) ⊎ ((fault ≡ Limit) × (are_scripts_short t ≡ false)) → fault ≢ NoMemory → first_fault (failing (tests_of t)) ≡ Some fault
past_scripts t fault numbered (inl none) memory = absurd (memory none)
past_scripts t fault numbered (inr long) memory = limited t (within_split t ∙ ap (λ b. b && are_scripts_short t) numbered ∙ long.1) ∙ ap Some (sym long.0)

pub always : {X : Type 0} (xs : List X) → list_all (λ (x : X). true) xs ≡ true
always xs = list_all-every (λ _. true) (λ _. refl) xs

pub there : {X : Type 0} (o : Option X) → is_some o ≡ true → (x : X) × (o ≡ Some x)
there o some = grind arith

-- If an optional value and its default pass a test, the one that is taken passes it.
pub or-else : {X : Type 0} (p : X → Bool) (o : Option X) (none : X) → p none ≡ true → ((x : X) → o ≡ Some x → p x ≡ true) → p (unwrap_or o none) ≡ true
or-else p o none passes some = grind (arith, some)
