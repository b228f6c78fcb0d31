-- what device calls leave of an arm, as each burns it and as the lines count them, and how an append under it ends
use Rattle.std.proofs.Common.{◌≡◌, ◌<◌, ◌≤◌, ◌+◌, ◌-◌, ◌∙◌, ℕ, zero, suc, Bool, true, false, refl, sym, ap, subst, arith, inl, inr}
use Rattle.std.specs.Prelude.{◌==◌, ◌&&◌, ◌⊎◌, not, if◌then◌else◌, nat_le, Some, None}
use Rattle.std.specs.Option.{option_map}
use Rattle.std.proofs.lemmas.Bool.{cases_eq}
use Rattle.std.proofs.lemmas.Bool.Decides.{nat_tests}
use Rattle.disk_journals.specs.Arms.{opens_all}
use Rattle.node_world.specs.Arms.{fired_by}
use Rattle.node_world.specs.declared.arm.Fired.TheVariants as fired
use Rattle.transcript_law.proofs.{invariant.Agreement.{IsArm}, disks.Disks.{bare}}
use Rattle.transcript_law.specs.Chronicles.{spent, calls_of_append, late_record, is_off}
use Rattle.transcript_law.specs.LineAnswers.{PassesAppend, PassesIn, FailsIn, StopsIn}
use Rattle.vb_calls.specs.Shelves.{late_of}
use Rattle.vb_disk.specs.Arms.{hits, burnt, burnt_by}
use Rattle.vb_disk.specs.declared.fuse.Fuse.{Fuse}
use Rattle.vb_disk.specs.declared.fuse.Fuse.TheVariants.{Off, Stop, Fail}
use Rattle.vb_disk.specs.declared.made.Outcome.TheVariants.{New}
use Rattle.vb_journal.specs.UnderArms.{all_pass, both_pass, burnt_both, burnt_noting, stands}
use Rattle.vb_types.specs.declared.journal.Record.{Record}

-- one of so many device calls is hit
abbrev pub hit_in : ℕ → Fuse → Bool
hit_in n Off = false
hit_in n (Stop k) = nat_le k n
hit_in n (Fail k) = nat_le k n

-- none of them is: the arm may fire yet, unless it is off
pub record Passes (n : ℕ) (f : Fuse) : Type 0 where
  pub beyond : PassesIn n f
  pub quiet : fired_by f (spent n f) ≡ fired.No
  pub arm : IsArm (spent n f)
  pub off_before : (is_off (spent n f) && not (is_off f)) ≡ false

-- one of them is: the arm is off then, and by what it was the call failed, or the node stopped inside it
pub record Fires (n : ℕ) (f : Fuse) : Type 0 where
  pub spent_off : spent n f ≡ Off
  pub off_now : (is_off (spent n f) && not (is_off f)) ≡ true
  pub how : (FailsIn n f × (fired_by f Off ≡ fired.Failed)) ⊎ (StopsIn n f × (fired_by f Off ≡ fired.Stopped))

-- an arm that did not burn did not fire
pub quiet_same : (f : Fuse) → fired_by f f ≡ fired.No
quiet_same Off = refl
quiet_same (Stop k) = refl
quiet_same (Fail k) = refl

pub passes : (n : ℕ) (f : Fuse) → IsArm f → hit_in n f ≡ false → Passes n f
passes n Off a e = record { beyond = tt; quiet = refl; arm = tt; off_before = refl }
passes n (Stop k) a e = record {
  beyond = grind (arith, nat_tests);
  quiet = ap (λ b. fired_by (Stop k) (if b then Off else Stop (k - n))) e;
  arm = subst (λ b. IsArm (if b then Off else Stop (k - n))) (sym e) (let t : n < k = grind (arith, nat_tests) in omega arith);
  off_before = ap (λ b. is_off (if b then Off else Stop (k - n)) && true) e;
}
passes n (Fail k) a e = record {
  beyond = grind (arith, nat_tests);
  quiet = ap (λ b. fired_by (Fail k) (if b then Off else Fail (k - n))) e;
  arm = subst (λ b. IsArm (if b then Off else Fail (k - n))) (sym e) (let t : n < k = grind (arith, nat_tests) in omega arith);
  off_before = ap (λ b. is_off (if b then Off else Fail (k - n)) && true) e;
}

pub fires : (n : ℕ) (f : Fuse) → IsArm f → hit_in n f ≡ true → Fires n f
fires n Off a e = cc
fires n (Stop k) a e =
    let off : spent n (Stop k) ≡ Off = ap (λ b. if b then Off else Stop (k - n)) e in
    record { spent_off = off; off_now = ap (λ g. is_off g && true) off; how = inr ((a, grind (arith, nat_tests)), refl) }
fires n (Fail k) a e =
    let off : spent n (Fail k) ≡ Off = ap (λ b. if b then Off else Fail (k - n)) e in
    record { spent_off = off; off_now = ap (λ g. is_off g && true) off; how = inl ((a, grind (arith, nat_tests)), refl) }

-- so many calls, and then so many more
pub spent_twice : (a b : ℕ) (f : Fuse) → spent b (spent a f) ≡ spent (a + b) f
spent_twice a b Off = refl
spent_twice a b (Stop k) = by (nat_le k a) refl
  where
    by : (c : Bool) → nat_le k a ≡ c → spent b (if c then Off else Stop (k - a)) ≡ spent (a + b) (Stop k)
    by true e = let t : nat_le k (a + b) ≡ true = grind (arith, nat_tests) in sym (ap (λ d. if d then Off else Stop (k - (a + b))) t)
    by false e =
        let t : nat_le (k - a) b ≡ nat_le k (a + b) = grind (arith, nat_tests) in let s : k - a - b ≡ k - (a + b) = omega arith in
        λ i. if t i then Off else Stop (s i)
spent_twice a b (Fail k) = by (nat_le k a) refl
  where
    by : (c : Bool) → nat_le k a ≡ c → spent b (if c then Off else Fail (k - a)) ≡ spent (a + b) (Fail k)
    by true e = let t : nat_le k (a + b) ≡ true = grind (arith, nat_tests) in sym (ap (λ d. if d then Off else Fail (k - (a + b))) t)
    by false e =
        let t : nat_le (k - a) b ≡ nat_le k (a + b) = grind (arith, nat_tests) in let s : k - a - b ≡ k - (a + b) = omega arith in
        λ i. if t i then Off else Fail (s i)

-- what they hit, and what they pass
pub spent_fails : (a b : ℕ) (f : Fuse) → FailsIn b (spent a f) → FailsIn (a + b) f
spent_fails a b Off x = x
spent_fails a b (Stop k) x = elim (nat_le k a) as (λ c. FailsIn b (if c then Off else Stop (k - a)) → ⊥) [ true ↦ λ y. y | false ↦ λ y. y ] x
spent_fails a b (Fail k) x = elim (nat_le k a) as (λ c. FailsIn b (if c then Off else Fail (k - a)) → FailsIn (a + b) (Fail k)) [
  | true ↦ λ y. absurd y
  | false ↦ λ y. let low : 0 < k - a = y.0 in let high : k - a ≤ b = y.1 in (omega arith, omega arith)
] x

pub spent_stops : (a b : ℕ) (f : Fuse) → StopsIn b (spent a f) → StopsIn (a + b) f
spent_stops a b Off x = x
spent_stops a b (Fail k) x = elim (nat_le k a) as (λ c. StopsIn b (if c then Off else Fail (k - a)) → ⊥) [ true ↦ λ y. y | false ↦ λ y. y ] x
spent_stops a b (Stop k) x = elim (nat_le k a) as (λ c. StopsIn b (if c then Off else Stop (k - a)) → StopsIn (a + b) (Stop k)) [
  | true ↦ λ y. absurd y
  | false ↦ λ y. let low : 0 < k - a = y.0 in let high : k - a ≤ b = y.1 in (omega arith, omega arith)
] x

pub spent_passes : (a b : ℕ) (f : Fuse) → PassesIn a f → PassesIn b (spent a f) → PassesIn (a + b) f
spent_passes a b Off x y = tt
spent_passes a b (Stop k) x y =
    let past : nat_le k a ≡ false = grind (arith, nat_tests) in
    let more : b < k - a = subst (λ c. PassesIn b (if c then Off else Stop (k - a))) past y in omega arith
spent_passes a b (Fail k) x y =
    let past : nat_le k a ≡ false = grind (arith, nat_tests) in
    let more : b < k - a = subst (λ c. PassesIn b (if c then Off else Fail (k - a))) past y in omega arith

-- one of so many is one of more
pub fails_more : (a b : ℕ) (f : Fuse) → a ≤ b → FailsIn a f → FailsIn b f
fails_more a b Off l x = x
fails_more a b (Stop k) l x = x
fails_more a b (Fail k) l x = let high : k ≤ a = x.1 in (x.0, omega arith)

pub stops_more : (a b : ℕ) (f : Fuse) → a ≤ b → StopsIn a f → StopsIn b f
stops_more a b Off l x = x
stops_more a b (Fail k) l x = x
stops_more a b (Stop k) l x = let high : k ≤ a = x.1 in (x.0, omega arith)

none_hit : (b : Bool) → true ≡ not b → b ≡ false
none_hit true e = cc
none_hit false e = refl

one_hit : (b : Bool) → false ≡ not b → b ≡ true
one_hit true e = refl
one_hit false e = cc

-- ---- calls, one after the other

none_burns : (n : ℕ) → burnt_by n Off ≡ Off
none_burns zero = refl
none_burns (suc n) = none_burns n

-- so many calls leave what the lines count
pub burns : (n : ℕ) (f : Fuse) → IsArm f → burnt_by n f ≡ spent n f
burns n Off a = none_burns n
burns zero (Stop k) a =
    let none : nat_le k 0 ≡ false = grind (arith, nat_tests) in let same : k ≡ k - 0 = omega arith in
    ap Stop same ∙ ap (λ b. if b then Off else Stop (k - 0)) (sym none)
burns (suc n) (Stop k) a = elim (cases_eq k 1) [
  | inl next ↦
      let test : (k == 1) ≡ true = grind (arith, nat_tests) in let in_it : nat_le k (suc n) ≡ true = grind (arith, nat_tests) in
      ap (λ b. burnt_by n (if b then Off else Stop (k - 1))) test ∙ none_burns n ∙ ap (λ b. if b then Off else Stop (k - suc n)) (sym in_it)
  | inr other ↦
      let test : (k == 1) ≡ false = grind (arith, nat_tests) in let level : nat_le (k - 1) n ≡ nat_le k (suc n) = grind (arith, nat_tests) in
      let left : k - 1 - n ≡ k - suc n = omega arith in
      ap (λ b. burnt_by n (if b then Off else Stop (k - 1))) test ∙ burns n (Stop (k - 1)) (omega arith) ∙ (λ i. if level i then Off else Stop (left i))
]
burns zero (Fail k) a =
    let none : nat_le k 0 ≡ false = grind (arith, nat_tests) in let same : k ≡ k - 0 = omega arith in
    ap Fail same ∙ ap (λ b. if b then Off else Fail (k - 0)) (sym none)
burns (suc n) (Fail k) a = elim (cases_eq k 1) [
  | inl next ↦
      let test : (k == 1) ≡ true = grind (arith, nat_tests) in let in_it : nat_le k (suc n) ≡ true = grind (arith, nat_tests) in
      ap (λ b. burnt_by n (if b then Off else Fail (k - 1))) test ∙ none_burns n ∙ ap (λ b. if b then Off else Fail (k - suc n)) (sym in_it)
  | inr other ↦
      let test : (k == 1) ≡ false = grind (arith, nat_tests) in let level : nat_le (k - 1) n ≡ nat_le k (suc n) = grind (arith, nat_tests) in
      let left : k - 1 - n ≡ k - suc n = omega arith in
      ap (λ b. burnt_by n (if b then Off else Fail (k - 1))) test ∙ burns n (Fail (k - 1)) (omega arith) ∙ (λ i. if level i then Off else Fail (left i))
]

none_opens : (n : ℕ) → opens_all Off n ≡ true
none_opens zero = refl
none_opens (suc n) = none_opens n

-- so many openings pass exactly where none of their calls is hit
pub opens : (n : ℕ) (f : Fuse) → IsArm f → opens_all f n ≡ not (hit_in n f)
opens n Off a = none_opens n
opens zero (Stop k) a = let none : nat_le k 0 ≡ false = grind (arith, nat_tests) in ap not (sym none)
opens (suc n) (Stop k) a = elim (cases_eq k 1) [
  | inl next ↦
      let test : (k == 1) ≡ true = grind (arith, nat_tests) in let in_it : nat_le k (suc n) ≡ true = grind (arith, nat_tests) in
      ap (λ b. if b then false else opens_all (if b then Off else Stop (k - 1)) n) test ∙ ap not (sym in_it)
  | inr other ↦
      let test : (k == 1) ≡ false = grind (arith, nat_tests) in let level : nat_le (k - 1) n ≡ nat_le k (suc n) = grind (arith, nat_tests) in
      ap (λ b. if b then false else opens_all (if b then Off else Stop (k - 1)) n) test ∙ opens n (Stop (k - 1)) (omega arith) ∙ ap not level
]
opens zero (Fail k) a = let none : nat_le k 0 ≡ false = grind (arith, nat_tests) in ap not (sym none)
opens (suc n) (Fail k) a = elim (cases_eq k 1) [
  | inl next ↦
      let test : (k == 1) ≡ true = grind (arith, nat_tests) in let in_it : nat_le k (suc n) ≡ true = grind (arith, nat_tests) in
      ap (λ b. if b then false else opens_all (if b then Off else Fail (k - 1)) n) test ∙ ap not (sym in_it)
  | inr other ↦
      let test : (k == 1) ≡ false = grind (arith, nat_tests) in let level : nat_le (k - 1) n ≡ nat_le k (suc n) = grind (arith, nat_tests) in
      ap (λ b. if b then false else opens_all (if b then Off else Fail (k - 1)) n) test ∙ opens n (Fail (k - 1)) (omega arith) ∙ ap not level
]

-- so where they pass, and where one is hit
pub opened_all : (n : ℕ) (f : Fuse) → IsArm f → opens_all f n ≡ true → Passes n f
opened_all n f a e = passes n f a (none_hit (hit_in n f) (sym e ∙ opens n f a))

pub opened_hit : (n : ℕ) (f : Fuse) → IsArm f → opens_all f n ≡ false → Fires n f
opened_hit n f a e = fires n f a (one_hit (hit_in n f) (sym e ∙ opens n f a))

-- ---- an append

-- which of the four calls of an append an arm hits, if it hits one
data Place (k : ℕ) : Type 0 where
  First : k ≡ 1 → Place k
  Second : k ≡ 2 → Place k
  Third : k ≡ 3 → Place k
  Fourth : k ≡ 4 → Place k
  Later : 4 < k → Place k

place : (k : ℕ) → 0 < k → Place k
place k a = elim (cases_eq k 1) [ inl e ↦ First e | inr e1 ↦ elim (cases_eq k 2) [ inl e ↦ Second e | inr e2 ↦ elim (cases_eq k 3) [ inl e ↦ Third e | inr e3 ↦ elim (cases_eq k 4) [ inl e ↦ Fourth e | inr e4 ↦ Later (omega arith) ] ] ] ]

-- a call that is not hit, and what it leaves
abbrev Goes : Fuse → Fuse → Type 0
Goes f g = (hits f ≡ false) × (burnt f ≡ g)

stop_goes : (k : ℕ) → 1 < k → Goes (Stop k) (Stop (k - 1))
stop_goes k l = let test : (k == 1) ≡ false = grind (arith, nat_tests) in (test, ap (λ b. if b then Off else Stop (k - 1)) test)

fail_goes : (k : ℕ) → 1 < k → Goes (Fail k) (Fail (k - 1))
fail_goes k l = let test : (k == 1) ≡ false = grind (arith, nat_tests) in (test, ap (λ b. if b then Off else Fail (k - 1)) test)

both_go : (f g h : Fuse) → Goes f g → Goes g h → (both_pass f ≡ true) × (burnt_both f ≡ h)
both_go f g h a b = (
  (λ i. not (a.0 i) && not (hits (a.1 i))) ∙ ap not b.0,
  ap (λ b. if b then burnt f else burnt (burnt f)) a.0 ∙ ap burnt a.1 ∙ b.1,
)

-- so all four are
four_go : (f g : Fuse) → ((h : Fuse) × (both_pass f ≡ true) × (burnt_both f ≡ h) × ((both_pass h ≡ true) × (burnt_both h ≡ g))) → (all_pass f ≡ true) × (burnt_noting f ≡ g)
four_go f g (h, a, b, (c, d)) = (
  (λ i. a i && both_pass (b i)) ∙ c,
  ap (λ t. if t then burnt_both (burnt_both f) else burnt_both f) a ∙ ap burnt_both b ∙ d,
)

stop_four : (k : ℕ) → 4 < k → (all_pass (Stop k) ≡ true) × (burnt_noting (Stop k) ≡ Stop (k - 4))
stop_four k l =
    let left : k - 1 - 1 - 1 - 1 ≡ k - 4 = omega arith in
    let x = both_go (Stop k) (Stop (k - 1)) (Stop (k - 1 - 1)) (stop_goes k (omega arith)) (stop_goes (k - 1) (omega arith)) in
    let y = both_go (Stop (k - 1 - 1)) (Stop (k - 1 - 1 - 1)) (Stop (k - 1 - 1 - 1 - 1)) (stop_goes (k - 1 - 1) (omega arith)) (stop_goes (k - 1 - 1 - 1) (omega arith)) in
    four_go (Stop k) (Stop (k - 4)) (Stop (k - 1 - 1), x.0, x.1, (y.0, y.1 ∙ ap Stop left))

fail_four : (k : ℕ) → 4 < k → (all_pass (Fail k) ≡ true) × (burnt_noting (Fail k) ≡ Fail (k - 4))
fail_four k l =
    let left : k - 1 - 1 - 1 - 1 ≡ k - 4 = omega arith in
    let x = both_go (Fail k) (Fail (k - 1)) (Fail (k - 1 - 1)) (fail_goes k (omega arith)) (fail_goes (k - 1) (omega arith)) in
    let y = both_go (Fail (k - 1 - 1)) (Fail (k - 1 - 1 - 1)) (Fail (k - 1 - 1 - 1 - 1)) (fail_goes (k - 1 - 1) (omega arith)) (fail_goes (k - 1 - 1 - 1) (omega arith)) in
    four_go (Fail k) (Fail (k - 4)) (Fail (k - 1 - 1), x.0, x.1, (y.0, y.1 ∙ ap Fail left))

-- an append stands exactly where none of its four calls is hit; and it leaves of the arm what the lines count
pub record Burnt (f : Fuse) : Type 0 where
  pub all : all_pass f ≡ not (hit_in calls_of_append f)
  pub left : burnt_noting f ≡ spent calls_of_append f

stop_burnt : (k : ℕ) → Place k → Burnt (Stop k)
stop_burnt k (First e) = subst (λ m. Burnt (Stop m)) (sym e) (record { all = refl; left = refl })
stop_burnt k (Second e) = subst (λ m. Burnt (Stop m)) (sym e) (record { all = refl; left = refl })
stop_burnt k (Third e) = subst (λ m. Burnt (Stop m)) (sym e) (record { all = refl; left = refl })
stop_burnt k (Fourth e) = subst (λ m. Burnt (Stop m)) (sym e) (record { all = refl; left = refl })
stop_burnt k (Later l) =
    let x = stop_four k l in let test : nat_le k 4 ≡ false = grind (arith, nat_tests) in
    record { all = x.0 ∙ ap not (sym test); left = x.1 ∙ ap (λ b. if b then Off else Stop (k - 4)) (sym test) }

fail_burnt : (k : ℕ) → Place k → Burnt (Fail k)
fail_burnt k (First e) = subst (λ m. Burnt (Fail m)) (sym e) (record { all = refl; left = refl })
fail_burnt k (Second e) = subst (λ m. Burnt (Fail m)) (sym e) (record { all = refl; left = refl })
fail_burnt k (Third e) = subst (λ m. Burnt (Fail m)) (sym e) (record { all = refl; left = refl })
fail_burnt k (Fourth e) = subst (λ m. Burnt (Fail m)) (sym e) (record { all = refl; left = refl })
fail_burnt k (Later l) =
    let x = fail_four k l in let test : nat_le k 4 ≡ false = grind (arith, nat_tests) in
    record { all = x.0 ∙ ap not (sym test); left = x.1 ∙ ap (λ b. if b then Off else Fail (k - 4)) (sym test) }

pub noting_burns : (f : Fuse) → IsArm f → Burnt f
noting_burns Off a = record { all = refl; left = refl }
noting_burns (Stop k) a = stop_burnt k (place k a)
noting_burns (Fail k) a = fail_burnt k (place k a)

-- it stands
pub record StandsUnder (f : Fuse) : Type 0 where
  pub left : burnt_noting f ≡ spent calls_of_append f
  pub passed : Passes calls_of_append f
  pub open passed use *
  pub answers : PassesAppend f

pub stands_under : (f : Fuse) → IsArm f → all_pass f ≡ true → StandsUnder f
stands_under f a e =
    let beyond = passes calls_of_append f a none in
    record { left = (noting_burns f a).left; passed = beyond; answers = beyond.beyond }
  where
    none : hit_in calls_of_append f ≡ false
    none = none_hit (hit_in calls_of_append f) (sym e ∙ (noting_burns f a).all)

-- it was broken off
pub record BreaksUnder (f : Fuse) : Type 0 where
  pub left : burnt_noting f ≡ Off
  pub fired : Fires calls_of_append f
  pub open fired use *
  pub late : (r : Record) → late_of f r ≡ late_record f r

pub breaks_under : (f : Fuse) → IsArm f → all_pass f ≡ false → BreaksUnder f
breaks_under f a e =
    let hit = fires calls_of_append f a some in
    record { left = (noting_burns f a).left ∙ hit.spent_off; fired = hit; late = λ r. late_is f a some r }
  where
    some : hit_in calls_of_append f ≡ true
    some = one_hit (hit_in calls_of_append f) (sym e ∙ (noting_burns f a).all)

    stop_late : (k : ℕ) → Place k → nat_le k 4 ≡ true → (r : Record) → late_of (Stop k) r ≡ late_record (Stop k) r
    stop_late k (First e) h r = subst (λ m. late_of (Stop m) r ≡ late_record (Stop m) r) (sym e) refl
    stop_late k (Second e) h r = subst (λ m. late_of (Stop m) r ≡ late_record (Stop m) r) (sym e) refl
    stop_late k (Third e) h r = subst (λ m. late_of (Stop m) r ≡ late_record (Stop m) r) (sym e) refl
    stop_late k (Fourth e) h r = subst (λ m. late_of (Stop m) r ≡ late_record (Stop m) r) (sym e) refl
    stop_late k (Later l) h r = let z : k ≤ 4 = grind (arith, nat_tests) in absurd (omega arith)

    fail_late : (k : ℕ) → Place k → nat_le k 4 ≡ true → (r : Record) → late_of (Fail k) r ≡ late_record (Fail k) r
    fail_late k (First e) h r = subst (λ m. late_of (Fail m) r ≡ late_record (Fail m) r) (sym e) refl
    fail_late k (Second e) h r = subst (λ m. late_of (Fail m) r ≡ late_record (Fail m) r) (sym e) refl
    fail_late k (Third e) h r = subst (λ m. late_of (Fail m) r ≡ late_record (Fail m) r) (sym e) refl
    fail_late k (Fourth e) h r = subst (λ m. late_of (Fail m) r ≡ late_record (Fail m) r) (sym e) refl
    fail_late k (Later l) h r = let z : k ≤ 4 = grind (arith, nat_tests) in absurd (omega arith)

    late_is : (f : Fuse) → IsArm f → hit_in calls_of_append f ≡ true → (r : Record) → late_of f r ≡ late_record f r
    late_is Off a h r = cc
    late_is (Stop k) a h r = stop_late k (place k a) h r
    late_is (Fail k) a h r = fail_late k (place k a) h r

-- the lines tell of such a record without its changes
pub late_bare : (f : Fuse) (r : Record) → option_map bare (late_of f r) ≡ late_of f (bare r)
late_bare f r = elim (stands f New) as (λ b. option_map bare (if b then Some r else None) ≡ (if b then Some (bare r) else None)) [ true ↦ refl | false ↦ refl ]
