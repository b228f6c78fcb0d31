-- the words of a storm, letter by letter
use Rattle.std.proofs.Common.{◌≡◌, ℕ, ◌*◌, ◌<◌, ◌≤◌, Option, Some, None, refl, ap, sym, subst, ◌∙◌, arith}
use Rattle.std.specs.Prelude.{◌↔◌, if◌then◌else◌, nat_le, List, [], ◌∷◌, Bool, true, false, codes, decimal}
use Rattle.std.proofs.lemmas.Bool.{and_from, le-leb}
use Rattle.std.proofs.lemmas.Option.{same_Some}
use Rattle.std.specs.Str.{bytes_eq}
use Rattle.std.proofs.lemmas.Slice.Eq.{bytes_eq-Decides}
use Rattle.script_text.specs.Numbers.{number_of}
use Rattle.script_text.proofs.Decimals.{decimal-number_of, number_of-decimal}
use Rattle.storm_model.specs.Limits.{is_storm}
use Rattle.storm_model.proofs.Agreeing.{in_limits}
use Rattle.dcp_main.specs.Words.{gen_words, if_storm, says_run, starts_storm, storm_words}

-- three numbers are there, and a storm may have so many clients and writes
pub record Stormed (t : Bool) (a b c : Option ℕ) (seed clients writes : ℕ) : Type 0 where
  pub storm : t ≡ true
  pub seed_is : a ≡ Some seed
  pub clients_is : b ≡ Some clients
  pub writes_is : c ≡ Some writes
  pub fits : is_storm clients writes ≡ true

abbrev three : ℕ → ℕ → ℕ → Option (ℕ × (ℕ × ℕ))
three seed clients writes = Some (seed, (clients, writes))

fitting : (n m k seed clients writes : ℕ) (fit : Bool) → is_storm m k ≡ fit → (if fit then three n m k else None) ≡ three seed clients writes
    → Stormed true (Some n) (Some m) (Some k) seed clients writes
fitting n m k seed clients writes false fits e = absurd (cc e)
fitting n m k seed clients writes true fits e =
    let same = same_Some (n, (m, k)) (seed, (clients, writes)) e in
    record {
      storm = refl;
      seed_is = ap (λ (p : ℕ × (ℕ × ℕ)). Some p.0) same;
      clients_is = ap (λ (p : ℕ × (ℕ × ℕ)). Some p.1.0) same;
      writes_is = ap (λ (p : ℕ × (ℕ × ℕ)). Some p.1.1) same;
      fits = sym (ap (λ (p : ℕ × (ℕ × ℕ)). is_storm p.1.0 p.1.1) same) ∙ fits;
    }

stormed : (t : Bool) (a b c : Option ℕ) (seed clients writes : ℕ) → (if t then if_storm a b c else None) ≡ three seed clients writes → Stormed t a b c seed clients writes
stormed false a b c seed clients writes e = absurd (cc e)
stormed true None b c seed clients writes e = absurd (cc e)
stormed true (Some n) None c seed clients writes e = absurd (cc e)
stormed true (Some n) (Some m) None seed clients writes e = absurd (cc e)
stormed true (Some n) (Some m) (Some k) seed clients writes e = fitting n m k seed clients writes (is_storm m k) refl e

abbrev AsksStorm : List (List ℕ) → ℕ → ℕ → ℕ → Type 0
AsksStorm words seed clients writes =
    (words ≡ (115 ∷ 116 ∷ 111 ∷ 114 ∷ 109 ∷ []) ∷ decimal seed ∷ decimal clients ∷ decimal writes ∷ [])
    × (seed < 18446744073709551616) × (1 ≤ clients) × (clients ≤ 64) × (1 ≤ writes) × (writes ≤ 1000000) × (clients * writes ≤ 1000000)

storm_said : (words : List (List ℕ)) (seed clients writes : ℕ) → storm_words words ≡ Some (seed, (clients, writes)) → AsksStorm words seed clients writes
storm_said [] seed clients writes e = absurd (cc e)
storm_said (word ∷ []) seed clients writes e = absurd (cc e)
storm_said (word ∷ a ∷ []) seed clients writes e = absurd (cc e)
storm_said (word ∷ a ∷ b ∷ []) seed clients writes e = absurd (cc e)
storm_said (word ∷ a ∷ b ∷ c ∷ []) seed clients writes e =
    let parts = stormed (bytes_eq word (codes "storm")) (number_of a) (number_of b) (number_of c) seed clients writes e in
    let limits = in_limits clients writes parts.fits in
    let storm = (bytes_eq-Decides word (codes "storm")).0 parts.storm in
    let first = decimal-number_of a seed parts.seed_is in
    let second = decimal-number_of b clients parts.clients_is in
    let third = decimal-number_of c writes parts.writes_is in
    let x = first.0 in
    let y = second.0 in
    let z = third.0 in
    let is : word ∷ a ∷ b ∷ c ∷ [] ≡ (115 ∷ 116 ∷ 111 ∷ 114 ∷ 109 ∷ []) ∷ decimal seed ∷ decimal clients ∷ decimal writes ∷ [] = λ i. storm i ∷ x i ∷ y i ∷ z i ∷ [] in
    (is, first.1, limits.clients_low, limits.clients_high, limits.writes_low, limits.writes_high, limits.all)
storm_said (word ∷ a ∷ b ∷ c ∷ next ∷ words) seed clients writes e = absurd (cc e)

may_storm : (clients writes : ℕ) → 1 ≤ clients → clients ≤ 64 → 1 ≤ writes → writes ≤ 1000000 → clients * writes ≤ 1000000 → is_storm clients writes ≡ true
may_storm clients writes a b c d e =
    let some = and_from (nat_le 1 clients) (nat_le clients 64) (le-leb 1 clients a) (le-leb clients 64 b) in
    let each = and_from _ (nat_le writes 1000000) (and_from _ (nat_le 1 writes) some (le-leb 1 writes c)) (le-leb writes 1000000 d) in
    and_from _ (nat_le (clients * writes) 1000000) each (le-leb (clients * writes) 1000000 e)

storm_asked : (words : List (List ℕ)) (seed clients writes : ℕ) → AsksStorm words seed clients writes → storm_words words ≡ Some (seed, (clients, writes))
storm_asked words seed clients writes asks =
    let x = number_of-decimal seed asks.1 in
    let y = number_of-decimal clients (omega (arith, asks.3)) in
    let z = number_of-decimal writes (omega (arith, asks.5)) in
    ap storm_words asks.0
    ∙ (λ i. if_storm (x i) (y i) (z i))
    ∙ ap (λ t. if t then three seed clients writes else None) (may_storm clients writes asks.2 asks.3 asks.4 asks.5 asks.6)

pub letters_storm : (words : List (List ℕ)) (seed clients writes : ℕ) → (storm_words words ≡ Some (seed, (clients, writes))) ↔ AsksStorm words seed clients writes
letters_storm words seed clients writes = (storm_said words seed clients writes, storm_asked words seed clients writes)

-- ---- which call the words go to

starts : (words : List (List ℕ)) → starts_storm words ≡ true → (rest : List (List ℕ)) × (words ≡ (115 ∷ 116 ∷ 111 ∷ 114 ∷ 109 ∷ []) ∷ rest)
starts [] said = absurd (cc said)
starts (word ∷ rest) said = (rest, ap (λ it. it ∷ rest) ((bytes_eq-Decides word (codes "storm")).0 said))

pub letters_first : (words : List (List ℕ)) → (starts_storm words ≡ true) ↔ ((rest : List (List ℕ)) × (words ≡ (115 ∷ 116 ∷ 111 ∷ 114 ∷ 109 ∷ []) ∷ rest))
letters_first words = (starts words, λ has. ap starts_storm has.1)

-- the words are for the other call, and it has none of these
abbrev IsOther : List (List ℕ) → Type 0
IsOther words = (says_run words ≡ false) × (gen_words words ≡ None)

other_behind : (rest : List (List ℕ)) → IsOther (codes "storm" ∷ rest)
other_behind [] = (refl, refl)
other_behind (a ∷ []) = (refl, refl)
other_behind (a ∷ b ∷ []) = (refl, refl)
other_behind (a ∷ b ∷ c ∷ rest) = (refl, refl)

pub letters_apart : (words : List (List ℕ)) → starts_storm words ≡ true → (says_run words ≡ false) × (gen_words words ≡ None)
letters_apart words said =
    let has = (letters_first words).0 said in
    subst IsOther (sym has.1) (other_behind has.0)

pub letters_others : (words : List (List ℕ)) → starts_storm words ≡ false → storm_words words ≡ None
letters_others [] said = refl
letters_others (word ∷ []) said = refl
letters_others (word ∷ a ∷ []) said = refl
letters_others (word ∷ a ∷ b ∷ []) said = refl
letters_others (word ∷ a ∷ b ∷ c ∷ []) said = ap (λ t. if t then if_storm (number_of a) (number_of b) (number_of c) else None) said
letters_others (word ∷ a ∷ b ∷ c ∷ next ∷ words) said = refl
