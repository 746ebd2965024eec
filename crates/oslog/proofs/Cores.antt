-- The words of a set of cores are the numbers of its cores, and are read back as the set.
use Rattle.std.proofs.Common.{inl, inr, ◌≡◌, ◌≢◌, ℕ, zero, suc, ◌+◌, ◌-◌, ◌<◌, ◌≤◌, ◌&&◌, nat_lt, Bool, true, false, Some, List, [], ◌∷◌, ◌++◌, map, length, replicate, set, filter, refl, sym, ap, ◌∙◌, arith, get_or-set_other, get_or-set_same, length-set}
use Rattle.std.specs.{Char.is_ascii_digit, Fmt.decimal, List.list_all}
use Rattle.std.proofs.{lemmas.Bool.and_from, lemmas.Bool.and_left, lemmas.Bool.and_right, lemmas.Bool.cases_Bool, lemmas.Bool.le-ltb, lemmas.Bool.lt-ltb, lemmas.Bool.ltb-true, lemmas.Grind.common_steps, lemmas.Fmt.digits_decimal, lemmas.List.append-nil, lemmas.List.append_assoc, lemmas.List.map-append, lemmas.List.ext_get_or, lemmas.List.Elements.filter-append, lemmas.List.Folds.list_all-map}
use Rattle.osbase.specs.{declared.items.CoreSet.CoreSet, declared.limits.TheConstants.CORES, declared.references.CoreId.CoreId, History.no_cores, Sets.core_ids, Sets.has_core, Sets.numbers_from}
use Rattle.ossyntax.specs.Word.{number_in}
use Rattle.ossyntax.proofs.{Fitting.number-read, Joining.all-none, Joining.has_none, KindTexts.number-back, Numerals.own, RoundTrip.chained}
use Rattle.osbase.proofs.Sets.{flag-read, has_core-flag, no-flag}
use Rattle.osplan.proofs.Tests.{all-filter, all-weaker}
use Rattle.oslog.specs.{Items.after_spaces, Words.core_words, Words.cores_from, Words.with_core}
use Rattle.oslog.proofs.{Joining.after_spaces-append, Naming.place-more, WordKinds.number-word}

abbrev pub at : ℕ → CoreId
at n = record { number = n }

-- the words of a set's cores, for `count` numbers from `first` on
abbrev pub words_from : CoreSet → ℕ → ℕ → List (List ℕ)
words_from cores first count = map (λ (id : CoreId). decimal id.number) (filter (has_core cores) (map at (numbers_from first count)))

-- numbers without a core have no word
skip : (cores : CoreSet) (first k count next all : ℕ) → next ≡ first + k → all ≡ k + count → ((n : ℕ) → first ≤ n → n < next → has_core cores (at n) ≡ false) → words_from cores first all ≡ words_from cores next count
skip cores first zero count next all next_is all_is none = let same : all ≡ count = omega arith in let here : next ≡ first = omega arith in rw (same, here)
skip cores first (suc k) count next all next_is all_is none =
    let more : all ≡ suc (k + count) = omega arith in
    let later = skip cores (first + 1) k count next (k + count) (omega arith) refl (λ n least most. none n (omega (arith, least)) most) in
    rw (more, none first (omega arith) (omega arith)) later

-- ---- one number more

from-more : (cores : CoreSet) (count : ℕ) → words_from cores 0 (count + 1) ≡ words_from cores 0 count ++ map (λ (id : CoreId). decimal id.number) (filter (has_core cores) (at count ∷ []))
from-more cores count = rw (place-more at count, filter-append (has_core cores), map-append)

pub core-more : (cores : CoreSet) (n : ℕ) (initial text : List ℕ) → has_core cores (at n) ≡ true → text ≡ initial ++ after_spaces (words_from cores 0 n) → text ++ 32 ∷ decimal n ≡ initial ++ after_spaces (words_from cores 0 (n + 1))
core-more cores n initial text here is = rw (is, from-more cores n, here) (simp (after_spaces-append, append-nil, append_assoc))

pub no-core-more : (cores : CoreSet) (n : ℕ) (initial text : List ℕ) → has_core cores (at n) ≡ false → text ≡ initial ++ after_spaces (words_from cores 0 n) → text ≡ initial ++ after_spaces (words_from cores 0 (n + 1))
no-core-more cores n initial text none is = rw (is, from-more cores n, none, append-nil)

-- ---- one core more

has-same : (n : ℕ) (cores : CoreSet) → n < length cores.members → n < 16 → has_core (with_core n cores) (at n) ≡ true
has-same n cores within low =
    and_from _ _ (lt-ltb n CORES low) (flag-read (set cores.members n true) n ∙ get_or-set_same cores.members n true false within)

has-other : (n m : ℕ) (cores : CoreSet) → m ≢ n → has_core (with_core n cores) (at m) ≡ has_core cores (at m)
has-other n m cores other = ap (λ (b : Bool). nat_lt m CORES && b) (flag-read (set cores.members n true) m ∙ get_or-set_other cores.members n m true false other ∙ sym (flag-read cores.members m))

none-there : (n : ℕ) → has_core no_cores (at n) ≡ false
none-there n = and_right (nat_lt n CORES) _ (flag-read (replicate 16 false) n ∙ no-flag 16 n)

-- ---- one word after another

-- The words are those of the cores with numbers from `least` on. Below `least`, the set is as it was.
record Said (words : List (List ℕ)) (least count : ℕ) (old cores : CoreSet) : Type 0 where
  words_are : words_from cores least count ≡ words
  below : (n : ℕ) → n < least → has_core cores (at n) ≡ has_core old (at n)
  long : length cores.members ≡ 16

said : (words : List (List ℕ)) (least count : ℕ) (old cores : CoreSet) → least + count ≡ 16 → length old.members ≡ 16 → ((n : ℕ) → least ≤ n → has_core old (at n) ≡ false) → cores_from least old words ≡ Some cores → Said words least count old cores
said [] least count old cores all long none e =
    let same : old ≡ cores = cc in
    rw (← same) (record { words_are = skip old least count 0 16 count (sym all) (omega arith) (λ n at_least most. none n at_least); below = λ n lt. refl; long = long })
said (w ∷ words) least count old cores all long none e =
    let c = chained (λ n. cores_from (n + 1) (with_core n old) words) (number_in least 15 w) cores e in
    let n = c.0 in
    let between = number-read least 15 w n c.1 in
    let later = said words (n + 1) (15 - n) (with_core n old) cores (omega (arith, between.3)) (length-set old.members n true ∙ long)
    (λ m least'. has-other n m old (λ same. omega (arith, same, least')) ∙ none m (omega (arith, least', between.2))) c.2 in
    let here : has_core cores (at n) ≡ true = later.below n (omega arith) ∙ has-same n old (omega (arith, long, between.3)) (omega (arith, between.3)) in
    let skipped = skip cores least (n - least) (suc (15 - n)) n count (omega (arith, between)) (omega (arith, all, between))
    (λ m at_least most. later.below m (omega (arith, most, between.2)) ∙ has-other n m old (λ same. omega (arith, same, most, between.2)) ∙ none m at_least) in
    record {
      words_are = skipped ∙ rw (here, number-word least 15 w n (omega arith) c.1, later.words_are);
      below = λ m lt. later.below m (omega (arith, lt, between.2)) ∙ has-other n m old (λ same. omega (arith, same, lt, between.2));
      long = later.long;
    }

pub cores-back : (words : List (List ℕ)) (cores : CoreSet) → cores_from 0 no_cores words ≡ Some cores → (core_words cores ≡ words) × (length cores.members ≡ 16)
cores-back words cores e = let back = said words 0 16 no_cores cores refl refl (λ n least. none-there n) e in (back.words_are, back.long)

-- ---- from a set to its words and back

-- two sets are equal if their flags are
same-set : (a b : CoreSet) → length a.members ≡ 16 → length b.members ≡ 16 → ((n : ℕ) → n < 16 → has_core a (at n) ≡ has_core b (at n)) → a ≡ b
same-set a b long also same =
    ap (λ (members : List Bool). let s : CoreSet = record { members = members } in s)
    (ext_get_or false a.members b.members (long ∙ sym also) (λ n lt. sym (has_core-flag a (at n) (omega (arith, lt, long))) ∙ same n (omega (arith, lt, long)) ∙ has_core-flag b (at n) (omega (arith, lt, long))))

-- The old set has exactly those cores of the other set whose numbers are below `first`.
abbrev Begins : CoreSet → ℕ → CoreSet → Type 0
Begins old first cores = (n : ℕ) → has_core old (at n) ≡ (nat_lt n first && has_core cores (at n))

one-on : (n first : ℕ) (new old there : Bool) → (n ≡ first → new ≡ there) → (n ≢ first → new ≡ old) → old ≡ (nat_lt n first && there) → new ≡ (nat_lt n (first + 1) && there)
one-on n first new old there here other begins = grind (arith, common_steps)

begins-with : (cores old : CoreSet) (first : ℕ) → first < 16 → length old.members ≡ 16 → has_core cores (at first) ≡ true → Begins old first cores → Begins (with_core first old) (first + 1) cores
begins-with cores old first low long here begins n =
    let same = has-same first old (omega arith) low ∙ sym here in
    one-on n first _ _ (has_core cores (at n)) (λ is. rw is same) (has-other first n old) (begins n)

begins-without : (cores old : CoreSet) (first : ℕ) → has_core cores (at first) ≡ false → Begins old first cores → Begins old (first + 1) cores
begins-without cores old first here begins n =
    let same = begins first ∙ and_right (nat_lt first first) _ here ∙ sym here in
    one-on n first _ _ (has_core cores (at n)) (λ is. rw is same) (λ other. refl) (begins n)

read : (cores : CoreSet) (first count least : ℕ) (old : CoreSet) → first + count ≡ 16 → least ≤ first → length cores.members ≡ 16 → length old.members ≡ 16 → Begins old first cores → cores_from least old (words_from cores first count) ≡ Some cores
read cores first zero least old all low long also begins = ap Some (same-set old cores also long (λ n lt. begins n ∙ ap (λ b. b && has_core cores (at n)) (lt-ltb n first (omega arith))))
read cores first (suc count) least old all low long also begins =
    elim (cases_Bool (has_core cores (at first))) as (λ _. cores_from least old (words_from cores first (suc count)) ≡ Some cores) [
      | inl here ↦
          let later = read cores (first + 1) count (first + 1) (with_core first old) (omega arith) (omega arith) long (length-set old.members first true ∙ also) (begins-with cores old first (omega arith) also here begins) in
          rw (here, number-back least 15 first low (omega arith) (omega arith)) later
      | inr none ↦ rw none (read cores (first + 1) count least old (omega arith) (omega arith) long also (begins-without cores old first none begins))
    ]

pub cores-read : (cores : CoreSet) → length cores.members ≡ 16 → cores_from 0 no_cores (core_words cores) ≡ Some cores
cores-read cores long = read cores 0 16 0 no_cores refl (omega arith) long refl (λ n. none-there n ∙ sym (and_left (nat_lt n 0) _ (le-ltb n 0 (omega arith))))

-- no word has a byte other than a digit
pub cores-none : (byte : ℕ) (cores : CoreSet) → is_ascii_digit byte ≡ false → list_all (has_none byte) (core_words cores) ≡ true
cores-none byte cores other =
    list_all-map (has_none byte) (λ (id : CoreId). decimal id.number) (filter (has_core cores) core_ids)
    ∙ all-filter (λ (id : CoreId). has_none byte (decimal id.number)) (has_core cores) core_ids
    (all-weaker (λ (id : CoreId). nat_lt id.number 16) (λ (id : CoreId). has_none byte (decimal id.number)) (λ id low. let below = ltb-true id.number 16 low in all-none is_ascii_digit byte (decimal id.number) other (digits_decimal own id.number (omega arith))) core_ids refl)
