-- what a crash makes of what was done to a disk in memory
use Rattle.std.proofs.Common.{◌≡◌, ℕ, ◌+◌, ◌<◌, ◌≤◌, Bool, true, false, List, [], ◌∷◌, ◌++◌, length, take, drop, refl, sym, ◌∙◌, ap, subst, arith, length-take, take-append-drop}
use Rattle.std.specs.Prelude.{if◌then◌else◌, reverse, replicate, get_or}
use Rattle.std.proofs.lemmas.List.{reverse-append, length-replicate, take_more}
use Rattle.vb_disk.specs.Crashes.{Clipped}
use Rattle.vb_disk.specs.Disks.{Torn, written}
use Rattle.vb_disk.specs.Memory.{content, MayLeave, CanBe, EachRan, IsKept, IsNoted, IsBlurOf, AreBlursOf, filled, blurred, synced, is_sync, is_pending}
use Rattle.vb_disk.specs.declared.made.Made.{Made}
use Rattle.vb_disk.specs.declared.made.Made.TheVariants as made
use Rattle.vb_disk.proofs.Kept.{length_blurred, blurred_before, can_more, ran_kept, ran_more}
use Rattle.vb_disk.proofs.Rewritten.{is_written, written_is_torn, unwritten_is_torn}

-- ---- all that was done once more

pub ran_room : (c : ℕ) (past : List Made) → EachRan c past → 1 ≤ c
ran_room c [] ran = ran
ran_room c (m ∷ older) ran = ran_room c older ran.1

ran_behind : (c : ℕ) (later older : List Made) → EachRan c (later ++ older) → EachRan c older
ran_behind c [] older ran = ran
ran_behind c (m ∷ later) older ran = ran_behind c later older ran.1

-- each thing can be done where those before it were
pub can_be_redone : (c d : ℕ) (past : List Made) (i : ℕ) (m : Made) (bytes : List ℕ) → i < length past → m ≡ get_or past i m → EachRan c (reverse past) → c ≤ d → bytes ≡ content (reverse (take i past)) → CanBe d m bytes
can_be_redone c d past i m bytes within is ran more now =
    let front : take (i + 1) past ≡ take i past ++ m ∷ [] = take_more past i m within ∙ ap (λ n. take i past ++ n ∷ []) (sym is) in
    let turned : reverse past ≡ reverse (drop (i + 1) past) ++ (m ∷ reverse (take i past)) =
    ap reverse (sym (take-append-drop (i + 1) past)) ∙ reverse-append (take (i + 1) past) (drop (i + 1) past)
    ∙ ap (λ l. reverse (drop (i + 1) past) ++ l) (ap reverse front ∙ reverse-append (take i past) (m ∷ [])) in
    let here = ran_behind c (reverse (drop (i + 1) past)) (m ∷ reverse (take i past)) (subst (EachRan c) turned ran) in
    can_more c d m bytes more (subst (CanBe c m) (sym now) here.0)

-- ---- nothing that was not synced is left

clipped_none : (n : ℕ) (bytes : List ℕ) → Clipped n bytes bytes
clipped_none n bytes = record { before = refl; no_shorter = omega arith; no_longer = omega arith }

-- it is one of the images
pub synced_left : (past : List Made) → MayLeave past (content (synced past))
synced_left [] = refl
synced_left (made.Wrote at bytes ∷ older) = (content (synced older), synced_left older, unwritten_is_torn at (length bytes.items) (content (synced older)))
synced_left (made.Cut n ∷ older) = (content (synced older), synced_left older, clipped_none n (content (synced older)))
synced_left (made.Blurred n byte ∷ older) = (content (synced older), synced_left older, clipped_none n (content (synced older)))
synced_left (made.Synced ∷ older) = refl

pub synced_ran : (c : ℕ) (past : List Made) → EachRan c past → EachRan c (synced past)
synced_ran c [] ran = ran
synced_ran c (made.Wrote at bytes ∷ older) ran = synced_ran c older ran.1
synced_ran c (made.Cut n ∷ older) ran = synced_ran c older ran.1
synced_ran c (made.Blurred n byte ∷ older) ran = synced_ran c older ran.1
synced_ran c (made.Synced ∷ older) ran = ran

pub synced_done : (past : List Made) → is_pending (synced past) ≡ false
synced_done [] = refl
synced_done (made.Wrote at bytes ∷ older) = synced_done older
synced_done (made.Cut n ∷ older) = synced_done older
synced_done (made.Blurred n byte ∷ older) = synced_done older
synced_done (made.Synced ∷ older) = refl

synced_short : (past : List Made) → length (synced past) ≤ length past
synced_short [] = omega arith
synced_short (made.Wrote at bytes ∷ older) = omega (arith, synced_short older)
synced_short (made.Cut n ∷ older) = omega (arith, synced_short older)
synced_short (made.Blurred n byte ∷ older) = omega (arith, synced_short older)
synced_short (made.Synced ∷ older) = omega arith

-- what is kept of the disk then
pub old_kept : (past now : List Made) (c places : ℕ) (bytes : List ℕ) → now ≡ synced past → bytes ≡ content (synced past) → EachRan c past → length past ≤ places
    → IsKept bytes c [] now × IsNoted [] now places false
old_kept past now c places bytes is made_anew ran few =
    let P : List Made → Type 0 = λ l. IsKept bytes c [] l × IsNoted [] l places false in
    subst P (sym is) (
      ran_kept bytes c [] (synced past) made_anew tt (synced_ran c past ran),
      record { known = sym (synced_done past); room = omega (arith, few, synced_short past) },
    )

-- ---- one byte is left all over it

filled_long : (c byte : ℕ) (past : List Made) → EachRan c past → length (content past) ≤ length (filled byte past)
filled_long c byte [] ran = omega arith
filled_long c byte (made.Wrote at bytes ∷ older) ran =
    let long = filled_long c byte older ran.1 in
    let all = replicate (length bytes.items) byte in
    omega (arith, long, (is_written at bytes.items (content older) ran.0.0).size, (is_written at all (filled byte older) (omega (arith, long, ran.0.0))).size, length-replicate (length bytes.items) byte)
filled_long c byte (made.Cut n ∷ older) ran = omega (arith, filled_long c byte older ran.1, length-take n (content older), length_blurred n byte (filled byte older))
filled_long c byte (made.Blurred n other ∷ older) ran =
    omega (arith, filled_long c byte older ran.1, length_blurred n other (content older), length_blurred n byte (filled byte older))
filled_long c byte (made.Synced ∷ older) ran = omega arith

clipped_blur : (n byte : ℕ) (bytes : List ℕ) → Clipped n bytes (blurred n byte bytes)
clipped_blur n byte bytes = record {
  before = blurred_before n byte bytes;
  no_shorter = omega (arith, length_blurred n byte bytes);
  no_longer = omega (arith, length_blurred n byte bytes);
}

-- it is one of the images
pub filled_left : (c byte : ℕ) (past : List Made) → EachRan c past → MayLeave past (filled byte past)
filled_left c byte [] ran = refl
filled_left c byte (made.Wrote at bytes ∷ older) ran =
    let all = replicate (length bytes.items) byte in
    let within = filled_long c byte older ran.1 in (
      filled byte older,
      filled_left c byte older ran.1,
      subst (λ n. Torn at n (filled byte older) (written at all (filled byte older))) (length-replicate (length bytes.items) byte)
          (written_is_torn at all (filled byte older) (omega (arith, within, ran.0.0))),
    )
filled_left c byte (made.Cut n ∷ older) ran = (filled byte older, filled_left c byte older ran.1, clipped_blur n byte (filled byte older))
filled_left c byte (made.Blurred n other ∷ older) ran = (filled byte older, filled_left c byte older ran.1, clipped_blur n byte (filled byte older))
filled_left c byte (made.Synced ∷ older) ran = refl

pub blur_more : (byte : ℕ) (m n : Made) (older rest : List Made) → is_sync m ≡ false → IsBlurOf byte m n → AreBlursOf byte older rest → AreBlursOf byte (m ∷ older) (n ∷ rest)
blur_more byte (made.Wrote at bytes) n older rest not_sync one more = (n, rest, refl, one, more)
blur_more byte (made.Cut len) n older rest not_sync one more = (n, rest, refl, one, more)
blur_more byte (made.Blurred len other) n older rest not_sync one more = (n, rest, refl, one, more)
blur_more byte made.Synced n older rest not_sync one more = absurd (cc not_sync)

-- what was done, with one byte all over
pub record IsBlurred (c byte : ℕ) (past now : List Made) : Type 0 where
  pub bytes : content now ≡ filled byte past
  pub ran : EachRan c now
  pub long : length now ≡ length past
  pub pending : is_pending now ≡ is_pending past

blurred_cut : (c byte n : ℕ) (m other : Made) (older rest now : List Made) → now ≡ m ∷ rest → m ≡ made.Blurred n byte → filled byte (other ∷ older) ≡ blurred n byte (filled byte older) → is_pending (other ∷ older) ≡ true
    → IsBlurred c byte older rest → IsBlurred c byte (other ∷ older) now
blurred_cut c byte n m other older rest now is one fill pending more =
    let P : List Made → Type 0 = λ l. IsBlurred c byte (other ∷ older) l in
    subst P (sym (is ∙ ap (λ m. m ∷ rest) one)) (record {
      bytes = ap (blurred n byte) more.bytes ∙ sym fill;
      ran = (tt, more.ran);
      long = omega (arith, more.long);
      pending = sym pending;
    })

pub are_blurred : (c byte : ℕ) (past now : List Made) → EachRan c past → AreBlursOf byte past now → IsBlurred c byte past now
are_blurred c byte [] now ran is =
    let P : List Made → Type 0 = λ l. IsBlurred c byte [] l in
    subst P (sym is) (record { bytes = refl; ran = ran; long = refl; pending = refl })
are_blurred c byte (made.Wrote at bytes ∷ older) now ran (m, rest, is, wrote, blurs) =
    let more = are_blurred c byte older rest ran.1 blurs in
    let P : List Made → Type 0 = λ l. IsBlurred c byte (made.Wrote at bytes ∷ older) l in
    let all = wrote.0 in
    let one = wrote.1 in
    let same = wrote.2 in
    let size : length all.items ≡ length bytes.items = ap length same ∙ length-replicate (length bytes.items) byte in
    subst P (sym (is ∙ ap (λ m. m ∷ rest) one)) (record {
      bytes = λ i. written at (same i) (more.bytes i);
      ran = ((omega (arith, ran.0.0, filled_long c byte older ran.1, ap length more.bytes), omega (arith, ran.0.1, size), omega (arith, ran.0.2, size)), more.ran);
      long = omega (arith, more.long);
      pending = refl;
    })
are_blurred c byte (made.Cut n ∷ older) now ran (m, rest, is, one, blurs) = blurred_cut c byte n m (made.Cut n) older rest now is one refl refl (are_blurred c byte older rest ran.1 blurs)
are_blurred c byte (made.Blurred n other ∷ older) now ran (m, rest, is, one, blurs) =
    blurred_cut c byte n m (made.Blurred n other) older rest now is one refl refl (are_blurred c byte older rest ran.1 blurs)
are_blurred c byte (made.Synced ∷ older) now ran is =
    let P : List Made → Type 0 = λ l. IsBlurred c byte (made.Synced ∷ older) l in
    subst P (sym is) (record { bytes = refl; ran = ran; long = refl; pending = refl })

-- what is kept of the disk then
pub filled_kept : (past now : List Made) (c d byte places : ℕ) (pending : Bool) (bytes : List ℕ) → AreBlursOf byte past now → bytes ≡ content now → EachRan c past → c ≤ d → pending ≡ is_pending past
    → length past + (if pending then 1 else 0) ≤ places → IsKept bytes d [] now × IsNoted [] now places pending
filled_kept past now c d byte places pending bytes blurs made_anew ran more known room =
    let is = are_blurred c byte past now ran blurs in (
      ran_kept bytes d [] now made_anew tt (ran_more c d now more is.ran),
      record { known = known ∙ sym is.pending; room = omega (arith, room, is.long) },
    )
