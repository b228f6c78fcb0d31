-- what is kept of a disk in memory, and of all that was done to it
use Rattle.std.proofs.Common.{◌≡◌, inl, inr, ℕ, ◌+◌, ◌-◌, ◌*◌, ◌^◌, ◌<◌, ◌≤◌, Bool, true, false, List, [], ◌∷◌, ◌++◌, length, take, Vec, refl, sym, ◌∙◌, ap, subst, arith, length-take, length-append}
use Rattle.std.specs.Prelude.{if◌then◌else◌, reverse, replicate, Some}
use Rattle.std.proofs.lemmas.Bool.{cases_lt}
use Rattle.std.specs.declared.alloc.Global.{Global}
use Rattle.std.proofs.lemmas.List.{reverse-append, append-nil, length-replicate, length-reverse, take-take, take_at}
use Rattle.vb_disk.specs.Crashes.{Only, MaySettle}
use Rattle.vb_disk.specs.Disks.{IsReady, without, written}
use Rattle.vb_disk.specs.Memory.{content, MayLeave, crashes_after, mem_counts_now, blurred, EachFits, CanBe, after, EachRan, IsKept, IsNoted, is_pending}
use Rattle.vb_disk.specs.declared.Put.TheVariants as put
use Rattle.vb_disk.specs.declared.made.Made.{Made}
use Rattle.vb_disk.specs.declared.made.Made.TheVariants as made
use Rattle.vb_disk.proofs.Readied.{fits_more, fits_push, fits_without, one_is_used}
use Rattle.vb_disk.proofs.Rewritten.{is_written, written_is_torn}

-- ---- the bytes

pub can_more : (c d : ℕ) (m : Made) (old : List ℕ) → c ≤ d → CanBe c m old → CanBe d m old
can_more c d (made.Wrote at bytes) old h can = (can.0, omega (arith, h, can.1), can.2)
can_more c d (made.Cut n) old h can = can
can_more c d (made.Blurred n byte) old h can = tt
can_more c d made.Synced old h can = tt

pub ran_more : (c d : ℕ) (past : List Made) → c ≤ d → EachRan c past → EachRan d past
ran_more c d [] h ran = omega (arith, h, ran)
ran_more c d (m ∷ older) h ran = (can_more c d m (content older) h ran.0, ran_more c d older h ran.1)

pub length_blurred : (n byte : ℕ) (bytes : List ℕ) → length (blurred n byte bytes) ≡ length bytes
length_blurred n byte bytes = omega (arith, length-append (take n bytes) (replicate (length bytes - n) byte), length-take n bytes, length-replicate (length bytes - n) byte)

pub blurred_before : (n byte : ℕ) (bytes : List ℕ) → take n (blurred n byte bytes) ≡ take n bytes
blurred_before n byte bytes = elim (cases_lt (length bytes) n) [
  | inr within ↦ take_at (take n bytes) (replicate (length bytes - n) byte) n (omega (arith, length-take n bytes, within))
  | inl short ↦
      let none : length bytes - n ≡ 0 = omega (arith, short) in
      ap (take n) (ap (λ k. take n bytes ++ replicate k byte) none ∙ append-nil (take n bytes)) ∙ take-take n n bytes (omega arith)
]

-- a disk has some bytes, and not too many
after_sound : (c : ℕ) (m : Made) (old : List ℕ) → CanBe c m old → 1 ≤ length old → length old < 2 ^ 62 → (1 ≤ length (after m old)) × (length (after m old) < 2 ^ 62)
after_sound c (made.Wrote at bytes) old can some few =
    let is = is_written at bytes.items old can.0 in (omega (arith, is.size, some), omega (arith, is.size, few, can.2))
after_sound c (made.Cut n) old can some few = (omega (arith, length-take n old, can.0, can.1), omega (arith, length-take n old, few))
after_sound c (made.Blurred n byte) old can some few = (omega (arith, length_blurred n byte old, some), omega (arith, length_blurred n byte old, few))
after_sound c made.Synced old can some few = (some, few)

pub ran_sound : (c : ℕ) (past : List Made) → EachRan c past → (1 ≤ length (content past)) × (length (content past) < 2 ^ 62)
ran_sound c [] ran = (omega arith, omega arith)
ran_sound c (m ∷ older) ran = let sound = ran_sound c older ran.1 in after_sound c m (content older) ran.0 sound.0 sound.1

-- such bytes are kept
pub ran_kept : (bytes : List ℕ) (c : ℕ) (ready : List (ℕ × ℕ)) (past : List Made) → bytes ≡ content past → EachFits c ready → EachRan c past → IsKept bytes c ready past
ran_kept bytes c ready past now fits ran = record {
  some = omega (arith, ap length now, (ran_sound c past ran).0);
  few = omega (arith, ap length now, (ran_sound c past ran).1);
  fits = fits;
  now = now;
  ran = ran;
}

pub kept_more : (bytes : List ℕ) (c d : ℕ) (ready : List (ℕ × ℕ)) (past : List Made) → c ≤ d → IsKept bytes c ready past → IsKept bytes d ready past
kept_more bytes c d ready past h kept = record {
  some = kept.some;
  few = kept.few;
  fits = fits_more c d ready h kept.fits;
  now = kept.now;
  ran = ran_more c d past h kept.ran;
}

pub kept_push : (bytes : List ℕ) (c at len : ℕ) (ready : List (ℕ × ℕ)) (past : List Made) → at + len ≤ c → IsKept bytes c ready past → IsKept bytes c (ready ++ (at, len) ∷ []) past
kept_push bytes c at len ready past h kept = record {
  some = kept.some;
  few = kept.few;
  fits = fits_push c at len ready h kept.fits;
  now = kept.now;
  ran = kept.ran;
}

-- ---- memory is made ready

at_most_one : (pending : Bool) → (if pending then 1 else 0) ≤ 1
at_most_one true = omega arith
at_most_one false = omega arith

module _ (past now : List Made) (same : now ≡ past) (ready : List (ℕ × ℕ)) (places : ℕ) (pending : Bool) where
  pub noted_more : (more : ℕ) → places ≤ more → IsNoted ready (reverse past) places pending → IsNoted ready (reverse now) more pending
  noted_more more h noted =
      let P : List Made → Type 0 = λ l. IsNoted ready (reverse l) more pending in
      subst P (sym same) (record { known = noted.known; room = omega (arith, h, noted.room) })

  pub noted_push : (more at len : ℕ) → length now + (2 * length ready + 3) ≤ more → IsNoted ready (reverse past) places pending → IsNoted (ready ++ (at, len) ∷ []) (reverse now) more pending
  noted_push more at len h noted =
      let P : List Made → Type 0 = λ l. IsNoted (ready ++ (at, len) ∷ []) (reverse l) more pending in
      subst P (sym same) (record {
        known = noted.known;
        room = omega (arith, h, ap length same, length-reverse past, length-append ready ((at, len) ∷ []), at_most_one pending);
      })

pub kept_same : (past now : List Made) (ready : List (ℕ × ℕ)) (bytes bytes' : List ℕ) (c d : ℕ) → now ≡ past → bytes' ≡ bytes → c ≤ d → IsKept bytes c ready (reverse past) → IsKept bytes' d ready (reverse now)
kept_same past now ready bytes bytes' c d same e h kept =
    let P : List Made → Type 0 = λ l. IsKept bytes' d ready (reverse l) in
    let Q : List ℕ → Type 0 = λ b. IsKept b d ready (reverse past) in
    subst P (sym same) (subst Q (sym e) (kept_more bytes c d ready (reverse past) h kept))

-- ---- what was ready is used up

pub kept_without : (bytes : List ℕ) (c at len : ℕ) (ready : List (ℕ × ℕ)) (past : List Made) → IsKept bytes c ready past → IsKept bytes c (without at len ready) past
kept_without bytes c at len ready past kept = record {
  some = kept.some;
  few = kept.few;
  fits = fits_without c at len ready kept.fits;
  now = kept.now;
  ran = kept.ran;
}

pub noted_without : (past : List Made) (places at len : ℕ) (ready : List (ℕ × ℕ)) (pending : Bool) → IsReady at len ready → IsNoted ready past places pending → IsNoted (without at len ready) past places pending
noted_without past places at len ready pending is noted = record { known = noted.known; room = omega (arith, noted.room, one_is_used at len ready is) }

-- ---- one thing more is done

pub latest : (past now : List Made) (m : Made) → now ≡ past ++ m ∷ [] → reverse now ≡ m ∷ reverse past
latest past now m is = ap reverse is ∙ reverse-append past (m ∷ [])

module _ (past now : List Made) where
  pub wrote_kept : (at : ℕ) (v : Vec ℕ Global) (bytes old new : List ℕ) (c d : ℕ) (ready : List (ℕ × ℕ)) → now ≡ past ++ made.Wrote at v ∷ [] → v.items ≡ bytes → IsKept old c ready (reverse past)
      → at ≤ length old → at + length bytes ≤ c → at + length bytes < 2 ^ 62 → c ≤ d → new ≡ written at bytes old → IsKept new d (without at (length bytes) ready) (reverse now)
  wrote_kept at v bytes old new c d ready is copied kept within fits few more wrote =
      let P : List Made → Type 0 = λ l. IsKept new d (without at (length bytes) ready) l in
      subst P (sym (latest past now (made.Wrote at v) is))
      (ran_kept new d (without at (length bytes) ready) (made.Wrote at v ∷ reverse past) (wrote ∙ (λ i. written at (sym copied i) (kept.now i)))
      (fits_more c d _ more (fits_without c at (length bytes) ready kept.fits))
      ((omega (arith, within, ap length kept.now), omega (arith, fits, more, ap length copied), omega (arith, few, ap length copied)), ran_more c d (reverse past) more kept.ran))

  pub cut_kept : (n : ℕ) (old new : List ℕ) (c : ℕ) (ready : List (ℕ × ℕ)) → now ≡ past ++ made.Cut n ∷ [] → IsKept old c ready (reverse past) → 1 ≤ n → n ≤ length old
      → new ≡ take n old → IsKept new c (without n 0 ready) (reverse now)
  cut_kept n old new c ready is kept some within cut =
      let P : List Made → Type 0 = λ l. IsKept new c (without n 0 ready) l in
      subst P (sym (latest past now (made.Cut n) is))
      (ran_kept new c (without n 0 ready) (made.Cut n ∷ reverse past) (cut ∙ ap (take n) kept.now) (fits_without c n 0 ready kept.fits)
      ((some, omega (arith, within, ap length kept.now)), kept.ran))

  pub synced_kept : (bytes : List ℕ) (c : ℕ) (ready : List (ℕ × ℕ)) → now ≡ past ++ made.Synced ∷ [] → IsKept bytes c ready (reverse past) → IsKept bytes c ready (reverse now)
  synced_kept bytes c ready is kept =
      let P : List Made → Type 0 = λ l. IsKept bytes c ready l in
      subst P (sym (latest past now made.Synced is)) (record { some = kept.some; few = kept.few; fits = kept.fits; now = kept.now; ran = (tt, kept.ran) })

  -- a write or a cut takes the place that was needed for it, and leaves the one for a sync
  pub done_noted : (m : Made) (at len places places' : ℕ) (ready : List (ℕ × ℕ)) (pending : Bool) → now ≡ past ++ m ∷ [] → is_pending (m ∷ reverse past) ≡ true → IsReady at len ready → places' ≡ places
      → IsNoted ready (reverse past) places pending → IsNoted (without at len ready) (reverse now) places' true
  done_noted m at len places places' ready pending is undone ready_is same noted =
      let P : List Made → Type 0 = λ l. IsNoted (without at len ready) l places' true in
      subst P (sym (latest past now m is)) (record { known = sym undone; room = omega (arith, same, noted.room, one_is_used at len ready ready_is, at_most_one pending) })

  -- one of the things that are done has room before
  pub has_room : (at len places : ℕ) (ready : List (ℕ × ℕ)) (pending : Bool) → IsReady at len ready → IsNoted ready (reverse past) places pending → length (reverse past) + 1 ≤ places
  has_room at len places ready pending ready_is noted = omega (arith, noted.room, one_is_used at len ready ready_is)

  pub synced_noted : (places places' : ℕ) (ready : List (ℕ × ℕ)) → now ≡ past ++ made.Synced ∷ [] → places' ≡ places → IsNoted ready (reverse past) places true → IsNoted ready (reverse now) places' false
  synced_noted places places' ready is same noted =
      let P : List Made → Type 0 = λ l. IsNoted ready l places' false in
      subst P (sym (latest past now made.Synced is)) (record { known = refl; room = omega (arith, same, noted.room) })

-- ---- what a crash may leave of it

-- what is there is one of the images
pub now_may_be : (c : ℕ) (past : List Made) → EachRan c past → MayLeave past (content past)
now_may_be c [] ran = refl
now_may_be c (made.Wrote at bytes ∷ older) ran = (content older, now_may_be c older ran.1, written_is_torn at bytes.items (content older) ran.0.0)
now_may_be c (made.Cut n ∷ older) ran = (
  content older,
  now_may_be c older ran.1,
  record {
    before = take-take n n (content older) (omega arith);
    no_shorter = omega (arith, length-take n (content older));
    no_longer = omega (arith, length-take n (content older));
  },
)
now_may_be c (made.Blurred n byte ∷ older) ran = (
  content older,
  now_may_be c older ran.1,
  record {
    before = blurred_before n byte (content older);
    no_shorter = omega (arith, length_blurred n byte (content older));
    no_longer = omega (arith, length_blurred n byte (content older));
  },
)
now_may_be c (made.Synced ∷ older) ran = refl

-- and after a sync it is the only one
pub settled_only : (past : List Made) → is_pending past ≡ false → Only (content past) (MayLeave past)
settled_only [] done = λ image left. left
settled_only (made.Wrote at bytes ∷ older) done = absurd (cc done)
settled_only (made.Cut n ∷ older) done = absurd (cc done)
settled_only (made.Blurred n byte ∷ older) done = absurd (cc done)
settled_only (made.Synced ∷ older) done = λ image left. left

pub sync_settles : (past now : List Made) (c : ℕ) (ready : List (ℕ × ℕ)) (bytes : List ℕ) → now ≡ past ++ made.Synced ∷ [] → IsKept bytes c ready (reverse past)
    → MaySettle (crashes_after (reverse past)) (crashes_after (reverse now)) (Some bytes) put.Done
sync_settles past now c ready bytes is kept =
    let P : List Made → Type 0 = λ l. MaySettle (crashes_after (reverse past)) (crashes_after l) (Some bytes) put.Done in
    subst P (sym (latest past now made.Synced is)) (record {
      no_more = record {
        later = omega arith;
        among = among;
        nothing_else = λ t image le left. elim left [
          | inl now ↦ (mem_counts_now (record { bytes = bytes; ready = ready; past = reverse past })).counted t image le (among image now)
          | inr earlier ↦ earlier.1
        ];
        keeps = λ t image le left. inr (le, left);
      };
      settled = λ image left. left ∙ sym kept.now;
    })
  where
    among : (image : List ℕ) → image ≡ content (reverse past) → MayLeave (reverse past) image
    among image left = subst (MayLeave (reverse past)) (sym left) (now_may_be c (reverse past) kept.ran)
