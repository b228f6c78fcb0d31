-- journals that are opened one after the other
use Rattle.std.proofs.Common.{◌≡◌, ◌++◌, ◌∷◌, [], List, map, append_assoc, append-nil, refl, sym, ap, ◌∙◌, subst, Err}
use Rattle.vb_disk.specs.Disks.{Storage}
use Rattle.disk_journals.specs.Devices.{Device}
use Rattle.disk_journals.specs.Opening.{AreEnded, AreOpened, IsEnded, IsOpened, FirstFault, OpeningCame, disk_of, fault_of}
use Rattle.disk_journals.specs.Seen.{Seen}
use Rattle.disk_journals.specs.declared.opening.OpenCause.{OpenCause}
use Rattle.disk_journals.specs.declared.opening.OpenJournal.{OpenJournal}
use Rattle.disk_journals.specs.declared.opening.VbDisk.{VbDisk}

-- journals were opened on the front of these disks, and the rest is still to come
pub record Opens {D : Type 0} (dev : Device D) (disks rest : List (VbDisk D)) (opened : List (OpenJournal D)) : Type 0 where
  pub front : List (VbDisk D)
  pub split : disks ≡ front ++ rest
  pub are : AreOpened dev front opened

-- the journals at the end of these were ended, and these are their disks; the rest is still to be
pub record Ends {D : Type 0} (storage : D → Storage) (slots rest : List (Seen D)) (disks : List (VbDisk D)) : Type 0 where
  pub done : List (Seen D)
  pub split : slots ≡ rest ++ done
  pub are : AreEnded storage done disks

module _ {D : Type 0} (dev : Device D) where
  more_open : (front : List (VbDisk D)) (opened : List (OpenJournal D)) (from : VbDisk D) (o : OpenJournal D) → AreOpened dev front opened → IsOpened dev from o → AreOpened dev (front ++ from ∷ []) (opened ++ o ∷ [])
  more_open [] [] from o are is = (is, tt)
  more_open (f ∷ front) (p ∷ opened) from o are is = (are.0, more_open front opened from o are.1 is)
  more_open [] (p ∷ opened) from o are is = absurd are
  more_open (f ∷ front) [] from o are is = absurd are

  pub opens_none : (disks : List (VbDisk D)) → Opens dev disks disks []
  opens_none disks = record { front = []; split = refl; are = tt }

  pub opens_more : (disks before rest : List (VbDisk D)) (opened : List (OpenJournal D)) (from : VbDisk D) (o : OpenJournal D) → Opens dev disks before opened → before ≡ from ∷ rest → IsOpened dev from o → Opens dev disks rest (opened ++ o ∷ [])
  opens_more disks before rest opened from o opens is one = record {
    front = opens.front ++ from ∷ [];
    split = opens.split ∙ ap (λ ds. opens.front ++ ds) is ∙ sym (append_assoc opens.front (from ∷ []) rest);
    are = more_open opens.front opened from o opens.are one;
  }

  pub opens_all : (disks rest : List (VbDisk D)) (opened : List (OpenJournal D)) → Opens dev disks rest opened → rest ≡ [] → AreOpened dev disks opened
  opens_all disks rest opened opens none =
      subst (λ ds. AreOpened dev ds opened) (sym (opens.split ∙ ap (λ ds. opens.front ++ ds) none ∙ append-nil opens.front)) opens.are

  pub opens_fault : (disks before rest : List (VbDisk D)) (opened : List (OpenJournal D)) (from : VbDisk D) (why : OpenCause) (left : D) (back : List (VbDisk D)) → Opens dev disks before opened → before ≡ from ∷ rest → OpeningCame dev from.disk (Err (fault_of why left)) → back ≡ map disk_of opened ++ record { number = from.number; disk = left } ∷ rest → FirstFault dev disks why back
  opens_fault disks before rest opened from why left back opens is fault are = record {
    front = opens.front;
    first = from;
    behind = rest;
    were = opens.split ∙ ap (λ ds. opens.front ++ ds) is;
    opened = opened;
    in_front = opens.are;
    left = left;
    fault = fault;
    are = are;
  }

module _ {D : Type 0} (storage : D → Storage) where
  -- the disks of the last ones of these journals, and the others are still to come
  pub ended_more : (slots : List (Seen D)) (s : Seen D) (rest : List (Seen D)) (left : VbDisk D) (disks : List (VbDisk D)) → IsEnded storage s left → Ends storage slots (rest ++ s ∷ []) disks → Ends storage slots rest (left ∷ disks)
  ended_more slots s rest left disks one ends = record {
    done = s ∷ ends.done;
    split = ends.split ∙ append_assoc rest (s ∷ []) ends.done;
    are = (one, ends.are);
  }

  pub ended_all : (slots rest : List (Seen D)) (disks : List (VbDisk D)) → Ends storage slots rest disks → rest ≡ [] → AreEnded storage slots disks
  ended_all slots rest disks ends none = subst (λ s. AreEnded storage s disks) (sym (ends.split ∙ ap (λ r. r ++ ends.done) none)) ends.are

  pub ended_none : (slots all : List (Seen D)) (disks : List (VbDisk D)) → all ≡ slots → disks ≡ [] → Ends storage all slots disks
  ended_none slots all disks same none = record { done = []; split = same ∙ sym (append-nil slots); are = subst (λ ds. AreEnded storage [] ds) (sym none) tt }
