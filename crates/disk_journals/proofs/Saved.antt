-- what is known of a save and of a receipt, from what is known of one journal
use Rattle.std.proofs.Common.{◌≡◌, ℕ, List, Option, get_or, set, refl, sym, ◌∙◌, subst, Some, None, ◌⊎◌, inl, inr, Result, Ok, Err, OnErr, OnSome}
use Rattle.flusher.specs.Turns.{receipt_in, without_receipt}
use Rattle.flusher.specs.declared.flusher.Flusher.{Flusher}
use Rattle.flusher.specs.declared.flusher.Flusher.TheVariants as flusher
use Rattle.vb_calls.specs.Jobs.{IsUnasked}
use Rattle.vb_calls.specs.Shelves.{Flush, Idle, Out, Written, Keep}
use Rattle.vb_calls.specs.declared.journals.Wrote.{Wrote}
use Rattle.disk_journals.specs.declared.slot.Stage.{Stage}
use Rattle.disk_journals.specs.declared.slot.Stage.TheVariants as stage
use Rattle.disk_journals.specs.Asking.{disk_asks, fate_of_wrote}
use Rattle.disk_journals.specs.Saving.{SavesSlot, SavedAt, UnsavedAt, written_in}
use Rattle.disk_journals.specs.Devices.{Device}
use Rattle.disk_journals.specs.Seen.{Seen, place_in, flush_of, flush_at, stage_of}
use Rattle.disk_journals.proofs.Asked.{some_asked, placed_asked, keeps}
use Rattle.disk_journals.proofs.Places.{Changed, changed_again, changed_here, flush_here, flush_now, placed_change}

-- what holds in any case holds of an error
pub of_err : {T E P : Type 0} (r : Result T E) → P → OnErr r P
of_err (Ok x) h = tt
of_err (Err e) h = h

-- what an error says, said otherwise
pub err_as : {T E P Q : Type 0} (r : Result T E) → (P → Q) → OnErr r P → OnErr r Q
err_as (Ok x) f h = tt
err_as (Err e) f h = f h

-- no batch was taken at another stage
pub rests : (at : Stage) → (at ≡ stage.Idle) ⊎ (at ≡ stage.Written) → at ≡ stage.Out → ⊥
rests at (inl e) out = cc
rests at (inr e) out = cc

pub receipt_is : (f : Flusher) → receipt_in f ≡ written_in (flush_of f)
receipt_is flusher.Idle = refl
receipt_is (flusher.Out batch) = refl
receipt_is (flusher.Written receipt) = refl

pub is_idle : (f : Flusher) → flush_of f ≡ Idle → f ≡ flusher.Idle
is_idle flusher.Idle e = refl
is_idle (flusher.Out batch) e = cc
is_idle (flusher.Written receipt) e = cc

module _ {D : Type 0} (dev : Device D) where
  -- nothing is saved where nothing was taken
  pub unsaved : (flush : Flush) (slots : List (Seen D)) (v : ℕ) → (stage_of flush ≡ stage.Out → ⊥) → SavedAt dev flush slots v None slots
  unsaved Idle slots v other = refl
  unsaved (Out batch) slots v other = absurd (other refl)
  unsaved (Written seq) slots v other = refl

  -- memory was short for a batch that was taken
  pub unsaved_at : (flush : Flush) (slots : List (Seen D)) (v : ℕ) (new : List (Seen D)) → stage_of flush ≡ stage.Out → IsUnasked (disk_asks dev) v slots new → UnsavedAt dev flush slots v new
  unsaved_at Idle slots v new out short = absurd (cc out)
  unsaved_at (Out batch) slots v new out short = short
  unsaved_at (Written seq) slots v new out short = absurd (cc out)

  -- once the receipt was handed out, no batch is on its way
  pub done_keeps : (slots inside : List (Seen D)) (v i : ℕ) (s new : Seen D) (r : Option ℕ) (f : Flusher) → Some i ≡ place_in slots v → inside ≡ slots → s ≡ get_or inside i s → r ≡ receipt_in f → new ≡ record s { flusher = without_receipt f } → OnSome r (disk_asks dev slots v (Keep Idle) tt (set inside i new))
  done_keeps slots inside v i s new None f here same is e left = tt
  done_keeps slots inside v i s new (Some seq) flusher.Idle here same is e left = cc
  done_keeps slots inside v i s new (Some seq) (flusher.Out batch) here same is e left = cc
  done_keeps slots inside v i s new (Some seq) (flusher.Written receipt) here same is e left =
      subst (λ n. disk_asks dev slots v (Keep Idle) tt (set inside i n)) (sym left)
      (placed_asked dev slots inside v i (Keep Idle) tt s (record s { flusher = flusher.Idle }) here same is refl (keeps dev s Idle flusher.Idle refl))

  module _ (slots inside : List (Seen D)) (v i : ℕ) (wrote : Wrote) (s new : Seen D) (here : Some i ≡ place_in slots v) (same : inside ≡ slots) (is : s ≡ get_or inside i s) (number : new.number ≡ s.number) where
    saved_by : (f : Flusher) → s.flusher ≡ f → SavesSlot dev f s new (fate_of_wrote wrote) → SavedAt dev (flush_of f) slots v (Some wrote) (set inside i new)
    saved_by flusher.Idle e saved = absurd saved
    saved_by (flusher.Out batch) e saved =
        let mid : Seen D = record new { flusher = s.flusher } in
        let changed : Changed slots (set inside i mid) v mid = placed_change slots inside v i s here same is mid number in
        let after : Changed slots (set inside i new) v new = placed_change slots inside v i s here same is new number in
        record {
          between = set inside i mid;
          appended = placed_asked dev slots inside v i _ _ s mid here same is number saved.appended;
          kept = some_asked dev (set inside i mid) (set inside i new) v _ tt mid new
              (changed_here slots (set inside i mid) v mid changed)
              (changed_again slots (set inside i mid) (set inside i new) v mid new changed after)
              (keeps dev mid _ new.flusher saved.left);
          left = flush_now slots inside v i s here same is new number ∙ saved.left;
        }
    saved_by (flusher.Written receipt) e saved = absurd saved

    -- the batch that was taken was saved
    pub saved_at : SavesSlot dev s.flusher s new (fate_of_wrote wrote) → SavedAt dev (flush_at slots v) slots v (Some wrote) (set inside i new)
    saved_at saved =
        subst (λ f. SavedAt dev f slots v (Some wrote) (set inside i new)) (sym (flush_here slots inside v i s here same is))
        (saved_by s.flusher refl saved)
