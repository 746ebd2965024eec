-- If each entry that a core may add keeps a property, it holds after an item if it holds when the item is taken.
use Rattle.std.proofs.Common.{◌≡◌, Bool, true, ◌∷◌, refl, ap, sym, subst, ℤ, Option, ◌∙◌}
use Rattle.std.proofs.lemmas.Bool.{false≢true}
use Rattle.osbase.specs.{declared.statuses.Status.Status, declared.references.CoreId.CoreId, declared.messages.Message.Message, declared.items.Item.Item, declared.marks.Mark.Mark, declared.histories.OpenCall.OpenCall, Answers.reply, Marks.core_of_runner}
use Rattle.osbase.specs.History.{Entry, History, Note, current_task, Took, Printed, Noted, Opened}
use Rattle.osplan.specs.View.{View}
use Rattle.osstate.specs.Readings.{knows_started}
use Rattle.osacts.specs.{Acts.Sends, Acts.act, Seen.all_cores, Seen.seen_of}
use Rattle.osservice.proofs.Kept.{IsKept, IsSeen, Leave, anybody, is_local, may_open, nobody}
use Rattle.osservice.proofs.Partners.{Partner}
use Rattle.oskernel.specs.Step.{after}
use Rattle.oskernel.proofs.Carried.{NamesActing, NamesAllow, acting-anybody, after-carried, allow-anybody, is_replied, leave_all, next_of, replied-anybody}

-- Each kind of entry that follows from an item keeps the property: one of the core itself, a letter to a core that may
-- be asked, a reply to one that may be answered, and a call whose answer may be asked for, of a runner that marks may
-- name.
pub record Holds (may : Partner → Bool) (replies names : CoreId → Bool) (P : History → Type 0) : Type 0 where
  pub local : (e : Entry) (h : History) → is_local names e ≡ true → P h → P (e ∷ h)
  pub asked : (core : CoreId) (message : Message) (h : History) → may (Partner.Core core) ≡ true → P h → P (act (Sends core message) h)
  pub replied : (core : CoreId) (s : Status) (value : Option ℤ) (h : History) → replies core ≡ true → P h → P (act (Sends core (reply s value)) h)
  pub opened : (call : OpenCall) (h : History) → may_open may call ≡ true → names (core_of_runner call.runner) ≡ true → P h → P (Noted (Opened call) ∷ h)

-- If nobody is asked or answered, only entries of the core itself follow.
pub holds-local : (names : CoreId → Bool) (P : History → Type 0) → ((e : Entry) (h : History) → is_local names e ≡ true → P h → P (e ∷ h)) → Holds nobody nobody names P
holds-local names P local = record {
  local = local;
  asked = λ core message h m p. absurd (false≢true m);
  replied = λ core s value h m p. absurd (false≢true m);
  opened = λ call h m n p. absurd (false≢true m);
}

-- The property holds after an item if marks may name who acts, and objects of the own core and of those that may be
-- asked.
module _ (l : Leave) (P : History → Type 0) (holds : Holds l.may l.answered l.names P) (allowed : NamesAllow l.view l.may) (acting : (h : History) → P h → NamesActing l h) where
  -- The histories are the same, and have the property.
  record Same (h k : History) : Type 0 where
    pub same : h ≡ k
    pub has : P k

  both : (f : History → History) (h k : History) → Same h k → (P k → P (f k)) → Same (f h) (f k)
  both f h k p q = record { same = rw p.same refl; has = q p.has }

  kept : IsKept l l.view.around Same
  kept = record {
    holds = record {
      local = λ e h k m p. both (λ n. e ∷ n) h k p (holds.local e k m);
      asked = λ core message h k m p. both (act (Sends core message)) h k p (holds.asked core message k m);
      replied = λ core s value h k m p. both (act (Sends core (reply s value))) h k p (holds.replied core s value k m);
      opened = λ call h k m named p. both (λ n. Noted (Opened call) ∷ n) h k p (holds.opened call k m named);
    };
    started = λ core h k m p. ap (λ (n : History). knows_started n core) p.same;
    shared = λ m h k p. ap (all_cores l.view) p.same;
    reads = λ h k p. ap (seen_of l.view) p.same;
    seen = λ h k p. subst (λ (n : History). IsSeen l (seen_of l.view n)) (sym p.same) (acting k p.has).seen;
  }

  pub holds-named : (h : History) (item : Item) → is_replied l.answered l.names item ≡ true → P (Took item ∷ h) → P (after l.view h item)
  holds-named h item m p =
      (after-carried l allowed l.view.around Same kept (λ h k p. (ap current_task p.same, ap (next_of l.view) p.same)) (λ h k p. rw p.same (acting k p.has)) h h item item m refl (record { same = refl; has = p })).has

-- The property also holds after an item if marks may name any object.
pub holds-after : (v : View) (may : Partner → Bool) (replies : CoreId → Bool) (P : History → Type 0) → Holds may replies anybody P → NamesAllow v may → (h : History) (item : Item) → is_replied replies anybody item ≡ true → P (Took item ∷ h) → P (after v h item)
holds-after v may replies P holds allowed = holds-named (leave_all v may replies) P holds allowed (λ h p. acting-anybody v may replies h)

-- A property that every mark and every note keeps holds after an item, whichever services there are.
pub kept_after : (P : History → Type 0) → ((m : Mark) (h : History) → P h → P (Printed m ∷ h)) → ((n : Note) (h : History) → P h → P (Noted n ∷ h)) → (v : View) (h : History) (item : Item) → P (Took item ∷ h) → P (after v h item)
kept_after P printed noted v h item =
    holds-after v anybody anybody P (record {
      local = local;
      asked = λ core message k m p. noted _ k p;
      replied = λ core s value k m p. noted _ k p;
      opened = λ call k m n p. noted _ k p;
    }) (allow-anybody v) h item (replied-anybody item)
  where
    local : (e : Entry) (k : History) → is_local anybody e ≡ true → P k → P (e ∷ k)
    local (Printed m) k is p = printed m k p
    local (Noted n) k is p = noted n k p
    local (Took i) k is p = absurd (false≢true is)

-- A reading that no mark and no note changes is the same after an item as when the item is taken.
pub quiet_after : {A : Type 0} (f : History → A) → ((m : Mark) (h : History) → f (Printed m ∷ h) ≡ f h) → ((n : Note) (h : History) → f (Noted n ∷ h) ≡ f h) → (v : View) (h : History) (item : Item) → f (after v h item) ≡ f (Took item ∷ h)
quiet_after f printed noted v h item =
    kept_after (λ (k : History). f k ≡ f (Took item ∷ h)) (λ m k p. printed m k ∙ p) (λ n k p. noted n k ∙ p) v h item refl
