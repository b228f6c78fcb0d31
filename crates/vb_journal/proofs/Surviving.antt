-- what a crash leaves of a journal, at each moment of an append
use Rattle.std.proofs.Common.{◌≡◌, inl, inr, ℕ, ◌+◌, List, length, sym, ◌∙◌, ap, subst}
use Rattle.std.specs.Prelude.{Option, Some, None, IfSome, IsSome}
use Rattle.vb_disk.specs.Crashes.{Crashes, CountsNow, IsSettled, LeavesNoMore, AtEachMoment}
use Rattle.vb_disk.specs.Disks.{Storage, IsAsMade, Told}
use Rattle.vb_disk.proofs.Moments.{started, goes_on_same, joined, weaker}
use Rattle.vb_types.specs.declared.journal.Record.{Record}
use Rattle.vb_journal.specs.Books.{book_of, EndsAt, IsWhole, NotedPart}
use Rattle.vb_journal.specs.Reading.{reading, records_in, behind_gate, IsReadBack}
use Rattle.vb_journal.specs.Surviving.{OpensTo, OpensToOldOrNew, NotesAtEachMoment, GateDecides, LeavesWhole, IsUndamaged, IsCrashed, NeverDamaged}
use Rattle.vb_journal.specs.declared.scan.Scan.TheVariants as scan
use Rattle.vb_journal.proofs.Bearing.{made_kept}
use Rattle.vb_journal.proofs.Noting.{behind_is_ignored, ends_with, noted, noted_in_part, opened, left_shut, stage_torn}

-- a journal all of which stands opens to all of its records
pub opens_whole : (held : Option (List ℕ)) (c : Crashes) → IfSome held IsWhole → IsSettled held c → IfSome (book_of held) (λ records. (image : List ℕ) → c.leaves image → OpensTo records image)
opens_whole None c whole settled = tt
opens_whole (Some bytes) c whole settled = λ image left. (whole.0, ap reading (settled image left) ∙ whole.1)

-- at each moment of an append, its reserves and its writes
pub old_or_new : (held : Option (List ℕ)) (old mid new : Crashes) (gate : ℕ) (r : Record) → IfSome held (EndsAt gate) → IsReadBack r → CountsNow old → IsSettled held old → LeavesNoMore old mid
    → NotesAtEachMoment held mid new gate (behind_gate r) → IfSome (book_of held) (λ records. AtEachMoment old new (OpensToOldOrNew records r))
old_or_new None old mid new gate r ends back counts settled more notes = tt
old_or_new (Some bytes) old mid new gate r ends back counts settled more notes =
    let records = records_in bytes in
    let Has = OpensToOldOrNew records r in
    let ready = goes_on_same Has old old mid (started Has old counts (λ image left. inl (gate, ap reading (settled image left) ∙ ends))) more in
    let noting = weaker (NotedPart gate (behind_gate r) bytes) Has mid new (λ image part. elim (noted_in_part bytes records gate ends r back image part) [
      | inl before ↦ inl (gate, before)
      | inr one ↦ inr (gate + length (behind_gate r), one)
    ]) notes in
    joined Has old mid new ready noting

-- the gate decides
pub decides : (r : Record) (old : List ℕ) (records : List Record) (gate : ℕ) → IsReadBack r → reading old ≡ scan.Whole records gate → GateDecides r old records gate
decides r old records gate back reads = record {
  shut = λ image torn. behind_is_ignored old records gate reads image torn.before;
  opened = λ image torn open_gate. opened old records gate reads r back image (stage_torn old records gate reads r back image torn) open_gate;
  left_shut = λ image torn shut. left_shut old records gate reads r back image (stage_torn old records gate reads r back image torn) shut;
  all = noted old records gate reads r back;
  behind = λ image same. behind_is_ignored old records gate reads image same ∙ sym reads;
}

-- ---- no damage

-- whatever a crash leaves of a settled disk that reads as records reads so too
pub settled_leaves : (held : Option (List ℕ)) (c : Crashes) → IfSome held IsWhole → IsSettled held c → LeavesWhole held c
settled_leaves None c whole settled = tt
settled_leaves (Some bytes) c whole settled = λ image left. subst IsWhole (sym (settled image left)) whole

-- where no image is added
pub still_leaves : (held held' : Option (List ℕ)) (old new : Crashes) → held' ≡ held → LeavesNoMore old new → LeavesWhole held old → LeavesWhole held' new
still_leaves None held' old new same more whole = subst (λ h. LeavesWhole h new) (sym same) tt
still_leaves (Some bytes) held' old new same more whole = subst (λ h. LeavesWhole h new) (sym same) (λ image left. whole image (more.among image left))

-- a disk whose bytes stay, and to which no image is added
pub stays_undamaged : (s s' : Storage) (c c' : Crashes) → s'.held ≡ s.held → LeavesNoMore c c' → IfSome s.held (λ bytes. IsUndamaged s c → IsUndamaged s' c')
stays_undamaged s s' c c' same more = told s.held (λ undamaged. record {
  now = subst (λ h. IfSome h IsWhole) (sym same) undamaged.now;
  left = still_leaves s.held s'.held c c' same more undamaged.left;
})
  where
    told : {A : Type 0} (held : Option (List ℕ)) → A → IfSome held (λ bytes. A)
    told None a = tt
    told (Some bytes) a = a

-- where damage is read, it is damaged
pub denies : (s : Storage) (c : Crashes) (place : ℕ) (held : Option (List ℕ)) → s.held ≡ held → IfSome held (λ bytes. reading bytes ≡ scan.Damaged place) → IfSome held (λ bytes. IsUndamaged s c → ⊥)
denies s c place None is read = tt
denies s c place (Some bytes) is read = λ undamaged. let whole : IsWhole bytes = subst (λ h. IfSome h IsWhole) is undamaged.now in absurd (cc (sym whole.1 ∙ read))

-- records that bytes read as, and records with one more, are records
old_or_new_whole : (records : List Record) (r : Record) (image : List ℕ) → OpensToOldOrNew records r image → IsWhole image
old_or_new_whole records r image (inl old) = (old.0, (ends_with image records old.0 old.1).0)
old_or_new_whole records r image (inr new) = (new.0, (ends_with image _ new.0 new.1).0)

meanwhile : (records : List Record) (r : Record) (old new : Crashes) → AtEachMoment old new (OpensToOldOrNew records r) → AtEachMoment old new IsWhole
meanwhile records r old new moments = weaker (OpensToOldOrNew records r) IsWhole old new (old_or_new_whole records r) moments

-- behind an append that failed
pub broken_leaves : (held held' : Option (List ℕ)) (gate : ℕ) (r : Record) (old new : Crashes) → Told (NotedPart gate (behind_gate r)) held held'
    → IfSome (book_of held) (λ records. AtEachMoment old new (OpensToOldOrNew records r)) → CountsNow new → LeavesWhole held' new
broken_leaves None None gate r old new told moments counts = tt
broken_leaves None (Some now) gate r old new told moments counts = absurd told
broken_leaves (Some bytes) None gate r old new told moments counts = tt
broken_leaves (Some bytes) (Some now) gate r old new told moments counts = λ image left. old_or_new_whole (records_in bytes) r image (moments.each image (counts.counted old.moment image moments.later left))

made : (s : Storage) (c : Crashes) → IsAsMade s → IsSettled s.held c → IsUndamaged s c
made s c is settled = let whole = (made_kept s is).whole in record { now = whole; left = settled_leaves s.held c whole settled }

crashed_at : (held held' : Option (List ℕ)) (c c' : Crashes) (image : List ℕ) → IsSome held → LeavesWhole held c → c.leaves image → held' ≡ Some image → IsSettled held' c' → IfSome held' IsWhole × LeavesWhole held' c'
crashed_at None held' c c' image told whole left is settled = absurd (cc told)
crashed_at (Some bytes) held' c c' image told whole left is settled =
    let now = subst (λ h. IfSome h IsWhole) (sym is) (whole image left) in
    (now, settled_leaves held' c' now settled)

crashed : (s s' : Storage) (c c' : Crashes) → IsSome s.held → IsUndamaged s c → IsCrashed c s' c' → IsUndamaged s' c'
crashed s s' c c' told undamaged crash =
    let both = crashed_at s.held s'.held c c' crash.image told undamaged.left crash.left crash.held crash.settled in
    record { now = both.0; left = both.1 }

pub never : {D : Type 0} (storage : D → Storage) (crashes : D → Crashes) → NeverDamaged storage crashes
never storage crashes = record {
  made = λ d. made (storage d) (crashes d);
  crashed = λ d d'. crashed (storage d) (storage d') (crashes d) (crashes d');
  meanwhile = λ records r d d'. meanwhile records r (crashes d) (crashes d');
}
