-- which features are accepted
use Rattle.std.proofs.Common.{◌≡◌, ◌↔◌, ℕ, ◌+◌, ◌<◌, ◌≤◌, ◌^◌, Bool, true, false, List, [], ◌∷◌, ◌++◌, Option, Some, None, length, get_or, refl, ap, sym, ◌∙◌, subst, ◌⊎◌, inl, inr, arith, cond, append_assoc, append-nil, length-append}
use Rattle.std.specs.Prelude.{◌==◌, ◌||◌, ◌%◌, not}
use Rattle.std.specs.Int.{w16, from_be_bytes}
use Rattle.std.specs.List.{All, AllPairs, Contains, fold, position_or_len}
use Rattle.std.proofs.lemmas.Bool.{cases_lt, both_ways, eqb-true, eq-eqb}
use Rattle.std.proofs.lemmas.Bool.Decides.{nat_tests}
use Rattle.std.proofs.lemmas.List.Elements.{All-nil, All-cons, All-head, All-tail, Contains-append_left, Contains-push, Contains-push_cases, Contains-get_or}
use Rattle.std.proofs.lemmas.List.{get_or_past}
use Rattle.std.proofs.lemmas.List.Folds.{list_any-append, Any-from_list_any, list_any_at, position_or_len_push}
use Rattle.std.proofs.lemmas.List.Sums.{fails_before_first, passes_at_first, prefix_len-le-length}
use Rattle.std.proofs.lemmas.List.Quantifiers.{all_pairs_push}
use Rattle.std.proofs.lemmas.Nat.{from_be_bytes-to_be_bytes_2, be_bytes_2}
use Rattle.mcbp_kv.specs.Choices.{code_bytes, first_place, AreThose, AcceptsThose, AcceptsFew}
use Rattle.mcbp_kv.specs.Features.{feature_code, feature_of, has_feature, with_feature, with_feature_code, pairs, accepted}
use Rattle.mcbp_kv.specs.declared.feature.Feature.{Feature}
use Rattle.mcbp_kv.specs.declared.feature.Feature.TheVariants as feature

-- ---- features and their numbers

feature_back : (f : Feature) → feature_of (feature_code f) ≡ Some f
feature_back feature.MutationSeqnos = refl
feature_back feature.Json = refl
feature_back feature.AltRequests = refl
feature_back feature.SyncReplication = refl

-- one row of a table of numbers
row : (t : Bool) (f g : Feature) (rest : Option Feature) → cond t (Some f) rest ≡ Some g → ((t ≡ true) × (f ≡ g)) ⊎ (rest ≡ Some g)
row true f g rest h = inl (refl, cc h)
row false f g rest h = inr h

named : (code : ℕ) (f g : Feature) → (code == feature_code f) ≡ true → f ≡ g → code ≡ feature_code g
named code f g t e = eqb-true code (feature_code f) t ∙ ap feature_code e

code_of : (code : ℕ) (g : Feature) → feature_of code ≡ Some g → code ≡ feature_code g
code_of code g h = elim (row (code == 0x04) feature.MutationSeqnos g _ h) [
  | inl a ↦ named code feature.MutationSeqnos g a.0 a.1
  | inr a ↦ elim (row (code == 0x0b) feature.Json g _ a) [
    | inl b ↦ named code feature.Json g b.0 b.1
    | inr b ↦ elim (row (code == 0x10) feature.AltRequests g _ b) [
      | inl d ↦ named code feature.AltRequests g d.0 d.1
      | inr d ↦ elim (row (code == 0x11) feature.SyncReplication g _ d) [
        | inl e ↦ named code feature.SyncReplication g e.0 e.1
        | inr e ↦ absurd (cc e)
      ]
    ]
  ]
]

same_code : (f g : Feature) → feature_code f ≡ feature_code g → f ≡ g
same_code f g e = cc (feature_back f, feature_back g, ap feature_of e)

-- ---- the bytes of numbers

pairs_back : (codes : List ℕ) → All (λ code. code < 2 ^ 16) codes → pairs (code_bytes codes) ≡ codes
pairs_back [] h = refl
pairs_back (code ∷ codes) h =
    λ i. from_be_bytes-to_be_bytes_2 code (All-head (λ code. code < 2 ^ 16) code codes h) i ∷ pairs_back codes (All-tail (λ code. code < 2 ^ 16) code codes h) i

-- ---- each once, those that are asked for, in their order

-- a number that is there has its place there
place_there : (codes : List ℕ) (n : ℕ) → Contains codes n → position_or_len (λ m. m == n) codes < length codes
place_there codes n h = elim (cases_lt (position_or_len (λ m. m == n) codes) (length codes)) [
  | inl p ↦ p
  | inr p ↦ absurd (both_ways _ (fails_before_first (λ m. m == n) codes h.0 n (omega (arith, p, h.1))) (eq-eqb (get_or codes h.0 n) n h.2))
]

-- and one that is not has none
place_none : (codes : List ℕ) (n : ℕ) → (Contains codes n → ⊥) → position_or_len (λ m. m == n) codes ≡ length codes
place_none codes n h = elim (cases_lt (position_or_len (λ m. m == n) codes) (length codes)) [
  | inl p ↦ absurd (h (position_or_len (λ m. m == n) codes, p, eqb-true _ n (passes_at_first (λ m. m == n) codes n p)))
  | inr p ↦ omega (arith, p, prefix_len-le-length (λ m. not (m == n)) codes)
]

-- with one number more the places of those that were there stay
place_stays : (codes : List ℕ) (c n : ℕ) → Contains codes n → position_or_len (λ m. m == n) (codes ++ c ∷ []) ≡ position_or_len (λ m. m == n) codes
place_stays codes c n h =
    let old = place_there codes n h in
    let push = position_or_len_push (λ m. m == n) codes c in
    grind (arith, nat_tests, push, old)

-- and it has the last place itself, where it is new
place_new : (codes : List ℕ) (n : ℕ) → (Contains codes n → ⊥) → position_or_len (λ m. m == n) (codes ++ n ∷ []) ≡ length codes
place_new codes n h =
    let none = place_none codes n h in
    let push = position_or_len_push (λ m. m == n) codes n in
    grind (arith, nat_tests, push, none)

pub has_there : (f : Feature) (fs : List Feature) → Contains fs f → has_feature f fs ≡ true
has_there f fs h = list_any_at (λ g. feature_code g == feature_code f) fs h.0 f h.1 (eq-eqb _ _ (ap feature_code h.2))

pub has_back : (f : Feature) (fs : List Feature) → has_feature f fs ≡ true → Contains fs f
has_back f fs h =
    let (k, g, lt, at, same) = Any-from_list_any (λ g. feature_code g == feature_code f) fs h in
    let e : g ≡ f = same_code g f (eqb-true _ _ same) in
    subst (Contains fs) e (k, lt, at)

-- what was chosen of the numbers so far
record IsChosen (codes : List ℕ) (features : List Feature) : Type 0 where
  asked : (f : Feature) → Contains features f ↔ Contains codes (feature_code f)
  in_order : AllPairs (λ f g. first_place codes f < first_place codes g) features

order_stays : (codes : List ℕ) (c : ℕ) (features : List Feature) → IsChosen codes features
    → AllPairs (λ f g. first_place (codes ++ c ∷ []) f < first_place (codes ++ c ∷ []) g) features
order_stays codes c features h i j d lt in' =
    let stays : (k : ℕ) → k < length features → first_place (codes ++ c ∷ []) (get_or features k d) ≡ first_place codes (get_or features k d)
    = λ k l. place_stays codes c _ ((h.asked (get_or features k d)).0 (Contains-get_or features k d l)) in
    omega (arith, stays i (omega (arith, lt, in')), stays j in', h.in_order i j d lt in')

-- a number that adds nothing: of no feature, or of one that is there
chosen_same : (codes : List ℕ) (c : ℕ) (features : List Feature) → IsChosen codes features → ((f : Feature) → c ≡ feature_code f → Contains features f)
    → IsChosen (codes ++ c ∷ []) features
chosen_same codes c features h there = record {
  asked = λ f. (
    λ in'. Contains-append_left codes (c ∷ []) _ ((h.asked f).0 in'),
    λ in'. elim (Contains-push_cases codes c (feature_code f) in') [
      | inl p ↦ (h.asked f).1 p
      | inr p ↦ there f p
    ],
  );
  in_order = order_stays codes c features h;
}

chosen_new : (codes : List ℕ) (f : Feature) (features : List Feature) → IsChosen codes features → has_feature f features ≡ false
    → IsChosen (codes ++ feature_code f ∷ []) (features ++ f ∷ [])
chosen_new codes f features h new = record {
  asked = λ g. (
    λ in'. elim (Contains-push_cases features f g in') [
      | inl p ↦ Contains-append_left codes (feature_code f ∷ []) _ ((h.asked g).0 p)
      | inr p ↦ subst (λ g. Contains (codes ++ feature_code f ∷ []) (feature_code g)) p (Contains-push codes (feature_code f))
    ],
    λ in'. elim (Contains-push_cases codes (feature_code f) (feature_code g) in') [
      | inl p ↦ Contains-append_left features (f ∷ []) g ((h.asked g).1 p)
      | inr p ↦ subst (Contains (features ++ f ∷ [])) (same_code f g p) (Contains-push features f)
    ],
  );
  in_order =
      let lacks : Contains codes (feature_code f) → ⊥ = λ in'. both_ways _ new (has_there f features ((h.asked f).1 in')) in
      let last = place_new codes (feature_code f) lacks in
      all_pairs_push (λ f' g. first_place (codes ++ feature_code f ∷ []) f' < first_place (codes ++ feature_code f ∷ []) g) features f
      (order_stays codes (feature_code f) features h)
      (λ k d lt. let in' = (h.asked (get_or features k d)).0 (Contains-get_or features k d lt) in
      omega (arith, last, place_stays codes (feature_code f) _ in', place_there codes _ in'));
}

chosen_found : (codes : List ℕ) (f : Feature) (features : List Feature) → IsChosen codes features → (has : Bool) → has_feature f features ≡ has
    → IsChosen (codes ++ feature_code f ∷ []) (cond has features (features ++ f ∷ []))
chosen_found codes f features h true e =
    chosen_same codes (feature_code f) features h (λ g same. subst (Contains features) (same_code f g same) (has_back f features e))
chosen_found codes f features h false e = chosen_new codes f features h e

chosen_by : (codes : List ℕ) (c : ℕ) (features : List Feature) → IsChosen codes features → (o : Option Feature) → feature_of c ≡ o
    → IsChosen (codes ++ c ∷ []) (with_feature features o)
chosen_by codes c features h None e = chosen_same codes c features h (λ f same. absurd (cc (e, feature_back f, ap feature_of same)))
chosen_by codes c features h (Some f) e =
    subst (λ n. IsChosen (codes ++ n ∷ []) (with_feature features (Some f))) (sym (code_of c f e))
    (chosen_found codes f features h (has_feature f features) refl)

chosen_all : (codes more : List ℕ) (features : List Feature) → IsChosen codes features → IsChosen (codes ++ more) (fold with_feature_code features more)
chosen_all codes [] features h = subst (λ all. IsChosen all features) (sym (append-nil codes)) h
chosen_all codes (c ∷ more) features h =
    subst (λ all. IsChosen all (fold with_feature_code features (c ∷ more))) (append_assoc codes (c ∷ []) more)
    (chosen_all (codes ++ c ∷ []) more (with_feature_code features c) (chosen_by codes c features h (feature_of c) refl))

none_chosen : IsChosen [] []
none_chosen = record {
  asked = λ f. (λ h. absurd (omega (arith, h.1)), λ h. absurd (omega (arith, h.1)));
  in_order = λ i j d lt in'. absurd (omega (arith, in'));
}

pub accepts_those : AcceptsThose
unfolding accepted
accepts_those codes small =
    let chosen = chosen_all [] codes [] none_chosen in
    let those : AreThose codes (fold with_feature_code [] codes) = record {
      once = λ i j d lt in' same. let below = chosen.in_order i j d lt in' in omega (arith, below, ap (first_place codes) same);
      asked = chosen.asked;
      in_order = chosen.in_order;
    } in
    subst (λ all. AreThose codes (fold with_feature_code [] all)) (sym (pairs_back codes small)) those

-- ---- at most as many as there are features

number : Bool → ℕ
number true = 1
number false = 0

present : Feature → List Feature → ℕ
present f fs = number (has_feature f fs)

number_small : (b : Bool) → number b ≤ 1
unfolding number
number_small true = omega arith
number_small false = omega arith

present_once : (f : Feature) (fs : List Feature) → present f fs ≤ 1
unfolding present
present_once f fs = number_small (has_feature f fs)

present_not : (f : Feature) (fs : List Feature) → has_feature f fs ≡ false → present f fs ≡ 0
unfolding present number
present_not f fs h = ap number h

or_false : (b : Bool) → (b || false) ≡ b
or_false true = refl
or_false false = refl

or_true : (b : Bool) → (b || true) ≡ true
or_true true = refl
or_true false = refl

present_kept : (f g : Feature) (fs : List Feature) → (feature_code f == feature_code g) ≡ false → present g (fs ++ f ∷ []) ≡ present g fs
unfolding present
present_kept f g fs h = ap number (list_any-append (λ k. feature_code k == feature_code g) fs (f ∷ [])
    ∙ ap (λ b. has_feature g fs || (b || false)) h ∙ or_false (has_feature g fs))

present_now : (f : Feature) (fs : List Feature) → present f (fs ++ f ∷ []) ≡ 1
unfolding present number
present_now f fs = ap number (list_any-append (λ k. feature_code k == feature_code f) fs (f ∷ [])
    ∙ ap (λ b. has_feature f fs || (b || false)) (eq-eqb (feature_code f) (feature_code f) refl) ∙ or_true (has_feature f fs))

all_present : List Feature → ℕ
all_present fs = present feature.MutationSeqnos fs + present feature.Json fs + present feature.AltRequests fs + present feature.SyncReplication fs

few_more : (f : Feature) (fs : List Feature) → length fs ≤ all_present fs → has_feature f fs ≡ false → length (fs ++ f ∷ []) ≤ all_present (fs ++ f ∷ [])
unfolding all_present
few_more feature.MutationSeqnos fs h new =
    let f = feature.MutationSeqnos in
    omega (arith, h, length-append fs (f ∷ []), present_not f fs new, present_now f fs, present_kept f feature.Json fs refl, present_kept f feature.AltRequests fs refl, present_kept f feature.SyncReplication fs refl)
few_more feature.Json fs h new =
    let f = feature.Json in
    omega (arith, h, length-append fs (f ∷ []), present_not f fs new, present_now f fs, present_kept f feature.MutationSeqnos fs refl, present_kept f feature.AltRequests fs refl, present_kept f feature.SyncReplication fs refl)
few_more feature.AltRequests fs h new =
    let f = feature.AltRequests in
    omega (arith, h, length-append fs (f ∷ []), present_not f fs new, present_now f fs, present_kept f feature.MutationSeqnos fs refl, present_kept f feature.Json fs refl, present_kept f feature.SyncReplication fs refl)
few_more feature.SyncReplication fs h new =
    let f = feature.SyncReplication in
    omega (arith, h, length-append fs (f ∷ []), present_not f fs new, present_now f fs, present_kept f feature.MutationSeqnos fs refl, present_kept f feature.Json fs refl, present_kept f feature.AltRequests fs refl)

few_found : (f : Feature) (fs : List Feature) → length fs ≤ all_present fs → (has : Bool) → has_feature f fs ≡ has
    → length (cond has fs (fs ++ f ∷ [])) ≤ all_present (cond has fs (fs ++ f ∷ []))
few_found f fs h true e = h
few_found f fs h false e = few_more f fs h e

few_with : (o : Option Feature) (fs : List Feature) → length fs ≤ all_present fs → length (with_feature fs o) ≤ all_present (with_feature fs o)
few_with None fs h = h
few_with (Some f) fs h = few_found f fs h (has_feature f fs) refl

few_all : (codes : List ℕ) (fs : List Feature) → length fs ≤ all_present fs → length (fold with_feature_code fs codes) ≤ 4
unfolding all_present
few_all [] fs h =
    omega (arith, h, present_once feature.MutationSeqnos fs, present_once feature.Json fs, present_once feature.AltRequests fs, present_once feature.SyncReplication fs)
few_all (c ∷ codes) fs h = few_all codes (with_feature_code fs c) (few_with (feature_of c) fs h)

none_present : length {A = Feature} [] ≤ all_present []
none_present = omega arith

pub accepts_few : AcceptsFew
unfolding accepted
accepts_few value = few_all (pairs value) [] none_present

-- ---- bytes are numbers of two bytes each, where there is an even number of them

-- each place of bytes holds less than 256, also past the end
pub small : (bytes : List ℕ) → All (λ b. b < 256) bytes → (i : ℕ) → get_or bytes i 0 < 256
small bytes h i = elim (cases_lt i (length bytes)) [
  | inl p ↦ h i 0 p
  | inr p ↦ omega (arith, get_or_past bytes i 0 p)
]

pub bytes_back : (value : List ℕ) → All (λ b. b < 256) value → length value % 2 ≡ 0 → code_bytes (pairs value) ≡ value
bytes_back [] h even = refl
bytes_back (high ∷ []) h even = absurd (omega (arith, even))
bytes_back (high ∷ low ∷ rest) h even =
    let two = small (high ∷ low ∷ []) (All-cons (λ b. b < 256) high (low ∷ []) (All-head (λ b. b < 256) high (low ∷ rest) h)
    (All-cons (λ b. b < 256) low [] (All-head (λ b. b < 256) low rest (All-tail (λ b. b < 256) high (low ∷ rest) h)) (All-nil (λ b. b < 256)))) in
    λ i. be_bytes_2 (high ∷ low ∷ []) (from_be_bytes w16 (high ∷ low ∷ [])) refl two refl i
    ++ bytes_back rest (All-tail (λ b. b < 256) low rest (All-tail (λ b. b < 256) high (low ∷ rest) h)) (omega (arith, even)) i

pub codes_small : (value : List ℕ) → All (λ b. b < 256) value → All (λ code. code < 2 ^ 16) (pairs value)
codes_small [] h = All-nil (λ code. code < 2 ^ 16)
codes_small (high ∷ []) h = All-nil (λ code. code < 2 ^ 16)
codes_small (high ∷ low ∷ rest) h =
    All-cons (λ code. code < 2 ^ 16) _ (pairs rest) (omega (arith, All-head (λ b. b < 256) high (low ∷ rest) h, All-head (λ b. b < 256) low rest (All-tail (λ b. b < 256) high (low ∷ rest) h)))
    (codes_small rest (All-tail (λ b. b < 256) low rest (All-tail (λ b. b < 256) high (low ∷ rest) h)))

pub even_bytes : (codes : List ℕ) → length (code_bytes codes) % 2 ≡ 0
even_bytes [] = refl
even_bytes (code ∷ codes) = omega (arith, even_bytes codes)
