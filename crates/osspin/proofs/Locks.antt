-- Each of the three kinds of step is one call of one lock.
use Rattle.std.proofs.Common.{◌≡◌, ◌==◌, ℕ, ◌<◌, Bool, true, false, List, Option, Some, None, get_or, sym, refl, ap, ◌∙◌, subst, ⊎_elim, arith, length-set}
use Rattle.std.proofs.{Math.ListN.get_or-map, lemmas.List.map-set, lemmas.List.set-get_or, lemmas.List.Elements.All-set}
use Rattle.std.proofs.lemmas.Bool.{cases_Bool, eq-eqb, ne_eqb}
use prog.Atomic.{either}
use Rattle.osbase.specs.{declared.references.CoreId.CoreId, declared.references.SpinlockId.SpinlockId, declared.limits.TheConstants.SPINLOCKS}
use Rattle.osshared.specs.{Histories.Continues, Histories.entry, Runs.AreIdle, Views.IsStep}
use Rattle.osshared.proofs.Steps.{continues}
use Rattle.osspin.specs.{declared.calls.SpinAction.SpinAction, declared.calls.SpinAction.TheVariants.Take, declared.calls.SpinAction.TheVariants.Free, declared.calls.SpinAction.TheVariants.Look, declared.calls.SpinCall.SpinCall, declared.calls.SpinReply.SpinReply, declared.calls.SpinReply.TheVariants.Answered, declared.calls.SpinReply.TheVariants.Seen}
use Rattle.osspin.specs.Spins.{IsRefusedCall, free_call, holder_of, holders_after, is_free, is_held_by, lock_after, lock_reply, look_call, spin_call, spin_reply, spinlocks, try_take_call}
use Rattle.osspin.specs.Words.{FitsByte, Stands, answer, answer_to, word_of}

after_fits : (core : CoreId) (action : SpinAction) (h : Option CoreId) → core.number < 256 → FitsByte h → FitsByte (lock_after core action h)
after_fits core Take None small fits = small
after_fits core Take (Some d) small fits = fits
after_fits core Free None small fits = fits
after_fits core Free (Some d) small fits = ⊎_elim (λ (e : (d.number == core.number) ≡ true). rw e tt) (λ (e : (d.number == core.number) ≡ false). rw e fits) (cases_Bool _)
after_fits core Look h small fits = fits

-- a step on a lock's word that does what the call does to the lock
pub steps : (core : CoreId) (lock : SpinlockId) (action : SpinAction) (f : ℕ → ℕ) → lock.index < SPINLOCKS → core.number < 256
    → ((h : Option CoreId) → (f (word_of h) ≡ word_of (lock_after core action h)) × (answer_to core action (word_of h) ≡ lock_reply core action h))
    → IsStep spinlocks Stands answer core (spin_call lock action) lock.index f
steps core lock action f lt small does s words st found_small =
    let k : ℕ = lock.index in
    let h : Option CoreId = holder_of s lock in
    let after : Option CoreId = lock_after core action h in
    let found : get_or words k 0 ≡ word_of h = ap (λ (l : List ℕ). get_or l k 0) st.words_are ∙ get_or-map word_of s k None in
    let fits : FitsByte h = st.fit k None (subst (λ (n : ℕ). k < n) (sym st.count) lt) in (
      record {
        words_are = rw (found, (does h).0, st.words_are, map-set) refl;
        count = length-set s k after ∙ st.count;
        fit = All-set FitsByte s k after (after_fits core action h small fits) st.fit;
      },
      ap (answer_to core action) found ∙ (does h).1,
    )

-- taking: 0 becomes the core's word
takes : (core : CoreId) (h : Option CoreId) → (either (word_of h == 0) (word_of (Some core)) (word_of h) ≡ word_of (lock_after core Take h)) × (answer_to core Take (word_of h) ≡ lock_reply core Take h)
takes core None = (refl, refl)
takes core (Some d) = (grind (arith, ne_eqb), grind (arith, ne_eqb))

-- freeing: the core's word becomes 0
frees : (core : CoreId) (h : Option CoreId) → (either (word_of h == word_of (Some core)) 0 (word_of h) ≡ word_of (lock_after core Free h)) × (answer_to core Free (word_of h) ≡ lock_reply core Free h)
frees core None = (grind (arith, ne_eqb), grind (arith, ne_eqb))
frees core (Some d) = (grind (arith, eq-eqb, ne_eqb), grind (arith, eq-eqb, ne_eqb))

pub take_steps : (core : CoreId) (lock : SpinlockId) → lock.index < SPINLOCKS → core.number < 256 → IsStep spinlocks Stands answer core (spin_call lock Take) lock.index (λ n. either (n == 0) (word_of (Some core)) n)
take_steps core lock lt small = steps core lock Take (λ n. either (n == 0) (word_of (Some core)) n) lt small (takes core)

pub free_steps : (core : CoreId) (lock : SpinlockId) → lock.index < SPINLOCKS → core.number < 256 → IsStep spinlocks Stands answer core (spin_call lock Free) lock.index (λ n. either (n == word_of (Some core)) 0 n)
free_steps core lock lt small = steps core lock Free (λ n. either (n == word_of (Some core)) 0 n) lt small (frees core)

-- a call where one caller plays all cores, and each of the three kinds of call
pub goes_on : (holders new : List (Option CoreId)) (core : CoreId) (call : SpinCall) (reply : SpinReply) → reply ≡ spin_reply core call holders
    → new ≡ holders_after core call holders → Continues spinlocks holders (entry core call reply) new
goes_on holders new core call reply answer after = continues spinlocks holders new (entry core call reply) answer (sym after)

pub takes_on : (holders new : List (Option CoreId)) (core : CoreId) (lock : SpinlockId) (taken : Bool) → taken ≡ is_free (holder_of holders lock)
    → new ≡ holders_after core (spin_call lock Take) holders → Continues spinlocks holders (try_take_call core lock taken) new
takes_on holders new core lock taken answer after = continues spinlocks holders new (try_take_call core lock taken) (ap Answered answer) (sym after)

pub frees_on : (holders new : List (Option CoreId)) (core : CoreId) (lock : SpinlockId) (freed : Bool) → freed ≡ is_held_by core (holder_of holders lock)
    → new ≡ holders_after core (spin_call lock Free) holders → Continues spinlocks holders (free_call core lock freed) new
frees_on holders new core lock freed answer after = continues spinlocks holders new (free_call core lock freed) (ap Answered answer) (sym after)

pub looks_on : (holders : List (Option CoreId)) (core : CoreId) (lock : SpinlockId) (seen : Option CoreId) → seen ≡ holder_of holders lock → Continues spinlocks holders (look_call core lock seen) holders
looks_on holders core lock seen is = continues spinlocks holders holders (look_call core lock seen) (ap Seen is) (set-get_or holders lock.index None)

refused : (core : CoreId) (h : Option CoreId) (action : SpinAction) → Answered false ≡ lock_reply core action h → lock_after core action h ≡ h
refused core None Take e = cc
refused core (Some d) Take e = refl
refused core h Free e = cc
refused core h Look e = refl

-- a refused call does not change the holders
pub refused_idle : AreIdle spinlocks IsRefusedCall
refused_idle holders e is reply = let lock = e.call.lock in
    rw (refused e.core (holder_of holders lock) e.call.action (sym is ∙ reply)) (set-get_or holders lock.index None)
