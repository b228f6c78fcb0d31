-- what an append leaves under an arm, by each outcome of a crash
use Rattle.std.proofs.Common.{◌≡◌, inl, inr, ℕ, ◌+◌, ◌-◌, ◌<◌, Bool, true, false, List, [], ◌∷◌, ◌++◌, length, take, drop, refl, sym, ◌∙◌, ap, subst, arith}
use Rattle.std.specs.Prelude.{◌==◌, ◌&&◌, not, if◌then◌else◌, replicate, get_or, Option, Some, None, IfSome}
use Rattle.std.specs.Option.{option_map}
use Rattle.std.proofs.lemmas.Bool.{cases_Bool, cases_eq}
use Rattle.std.proofs.lemmas.Bool.Decides.{nat_tests}
use Rattle.std.proofs.lemmas.List.{drop_more}
use Rattle.vb_disk.specs.Arms.{hits, is_made, burnt}
use Rattle.vb_disk.specs.Disks.{Torn, written}
use Rattle.vb_disk.specs.Outcomes.{leaving}
use Rattle.vb_disk.specs.declared.Put.TheVariants as put
use Rattle.vb_disk.specs.declared.fuse.Fuse.{Fuse}
use Rattle.vb_disk.specs.declared.made.Outcome.{Outcome}
use Rattle.vb_disk.specs.declared.made.Outcome.TheVariants as outcome
use Rattle.vb_disk.proofs.Rewritten.{is_written, written_is_torn}
use Rattle.vb_types.specs.declared.journal.Record.{Record}
use Rattle.vb_journal.specs.Books.{book_of, EndsAt, noted_at}
use Rattle.vb_journal.specs.Reading.{records_in, behind_gate, IsReadBack}
use Rattle.vb_journal.specs.Surviving.{OpensTo}
use Rattle.vb_journal.specs.UnderArms.{IsSettledEach, LeavesUnder, both_pass, burnt_both, left_writing, left_noting, BurnsBoth, stands, leaves_open, with_if, AppendLeaves}
use Rattle.vb_journal.specs.declared.scan.TheConstants.{OPEN}
use Rattle.vb_journal.proofs.Noting.{behind_is_ignored, gate_within, noted, left_shut, stage_torn}

-- ---- both writes of an append

done_passes : (b : Bool) → put.Done ≡ (if b then put.Done else put.Failed) → b ≡ true
done_passes true is = refl
done_passes false is = absurd (cc is)

wrote_both : (first second : Bool) (made_left left all : List ℕ) → (not first && not second) ≡ true → (if first then made_left else if second then left else all) ≡ all
wrote_both false false made_left left all pass = refl
wrote_both false true made_left left all pass = absurd (cc pass)
wrote_both true second made_left left all pass = absurd (cc pass)

left_passed : (f : Fuse) (out : Outcome) (at : ℕ) (bytes old : List ℕ) → both_pass f ≡ true → left_writing f out at bytes old ≡ written at bytes old
left_passed f out at bytes old pass = wrote_both (hits f) (hits (burnt f)) (if is_made f then leaving out at bytes old else old) (leaving out at bytes old) (written at bytes old) pass

pub left_by_noting : (armed mid : Option Fuse) (held held' : Option (List ℕ)) (old between new : Outcome → Option (List ℕ)) (gate : ℕ) (behind : List ℕ) → BurnsBoth armed mid put.Done
    → held' ≡ option_map (written (gate + 1) behind) held → LeavesUnder armed held old between (λ f out bytes. left_writing f out (gate + 1) behind bytes)
    → LeavesUnder mid held' between new (λ f out bytes. left_writing f out gate (1 ∷ []) bytes) → LeavesUnder armed held old new (λ f out bytes. left_noting f out gate behind bytes)
left_by_noting None mid held held' old between new gate behind burns wrote first second = tt
left_by_noting (Some f) mid None held' old between new gate behind burns wrote first second = tt
left_by_noting (Some f) mid (Some bytes) held' old between new gate behind burns wrote first second = λ settled out.
    let pass = done_passes (both_pass f) burns.1 in
    let Leaves : Fuse → Outcome → List ℕ → List ℕ = λ f out bytes. left_writing f out gate (1 ∷ []) bytes in
    let then_gate : IsSettledEach (Some (written (gate + 1) behind bytes)) between → ((out : Outcome) → new out ≡ Some (left_writing (burnt_both f) out gate (1 ∷ []) (written (gate + 1) behind bytes))) =
    subst (λ held. LeavesUnder (Some (burnt_both f)) held between new Leaves) wrote (subst (λ armed. LeavesUnder armed held' between new Leaves) burns.0 second) in
    then_gate (λ out. first settled out ∙ ap Some (left_passed f out (gate + 1) behind bytes pass)) out
    ∙ ap (λ b. Some (if b then left_writing (burnt_both f) out gate (1 ∷ []) (written (gate + 1) behind bytes) else left_writing f out (gate + 1) behind bytes)) (sym pass)

-- ---- what it opens to

module _ (r : Record) (old : List ℕ) (gate : ℕ) (reads : EndsAt gate old) (back : IsReadBack r) where
  abbrev pub records : List Record
  records = records_in old

  abbrev staged : List ℕ
  staged = written (gate + 1) (behind_gate r) old

  within : gate < length old
  within = gate_within old records gate reads

  -- bytes behind the gate tell nothing
  behind_opens : (bytes : List ℕ) → OpensTo records (written (gate + 1) bytes old)
  behind_opens bytes = (gate, behind_is_ignored old records gate reads (written (gate + 1) bytes old) (is_written (gate + 1) bytes old (omega (arith, within))).before)

  old_opens : OpensTo records old
  old_opens = (gate, reads)

  first_opens : (out : Outcome) → OpensTo records (leaving out (gate + 1) (behind_gate r) old)
  first_opens outcome.Old = old_opens
  first_opens outcome.New = behind_opens (behind_gate r)
  first_opens (outcome.Fill byte) = behind_opens (replicate (length (behind_gate r)) byte)

  new_opens : OpensTo (records ++ r ∷ []) (noted_at gate (behind_gate r) old)
  new_opens = (gate + length (behind_gate r), noted old records gate reads r back)

  -- a gate of any byte
  gate_is : (byte : ℕ) → get_or (written gate (byte ∷ []) staged) gate 0 ≡ byte
  gate_is byte =
      let long = is_written (gate + 1) (behind_gate r) old (omega (arith, within)) in
      let is = is_written gate (byte ∷ []) staged (omega (arith, long.size, within)) in
      let one : 1 ≡ gate + 1 - gate = omega arith in
      let cut : take 1 (drop gate (written gate (byte ∷ []) staged)) ≡ byte ∷ [] = ap (λ n. take n (drop gate (written gate (byte ∷ []) staged))) one ∙ is.there in
      let first : get_or (written gate (byte ∷ []) staged) gate 0 ∷ [] ≡ byte ∷ [] =
      sym (ap (take 1) (drop_more (written gate (byte ∷ []) staged) gate 0 (omega (arith, is.size, long.size, within)))) ∙ cut in cc

  gate_torn : (byte : ℕ) → Torn gate 1 staged (written gate (byte ∷ []) staged)
  gate_torn byte =
      let long = is_written (gate + 1) (behind_gate r) old (omega (arith, within)) in
      written_is_torn gate (byte ∷ []) staged (omega (arith, long.size, within))

  filled_opens : (byte : ℕ) → OpensTo (with_if (byte == OPEN) records r) (written gate (byte ∷ []) staged)
  filled_opens byte = elim (cases_eq byte OPEN) [
    | inl is ↦
        let test : (byte == OPEN) ≡ true = grind (arith, nat_tests) in
        subst (λ b. OpensTo (with_if b records r) (written gate (byte ∷ []) staged)) (sym test)
        (subst (λ b. OpensTo (records ++ r ∷ []) (written gate (b ∷ []) staged)) (sym is) new_opens)
    | inr other ↦
        let test : (byte == OPEN) ≡ false = grind (arith, nat_tests) in
        subst (λ b. OpensTo (with_if b records r) (written gate (byte ∷ []) staged)) (sym test)
        (gate, left_shut old records gate reads r back (written gate (byte ∷ []) staged) (stage_torn old records gate reads r back (written gate (byte ∷ []) staged) (gate_torn byte)) (λ e. other (sym (gate_is byte) ∙ e)))
  ]

  second_opens : (out : Outcome) → OpensTo (with_if (leaves_open out) records r) (leaving out gate (1 ∷ []) staged)
  second_opens outcome.Old = behind_opens (behind_gate r)
  second_opens outcome.New = new_opens
  second_opens (outcome.Fill byte) = filled_opens byte

  -- a call of the first write was hit
  first_hit : (f : Fuse) (out : Outcome) → both_pass f ≡ false → OpensTo records (left_writing f out (gate + 1) (behind_gate r) old)
  first_hit f out hit = by_call (hits f) (hits (burnt f)) (is_made f) hit
    where
      by_call : (a b m : Bool) → (not a && not b) ≡ false
          → OpensTo records (if a then (if m then leaving out (gate + 1) (behind_gate r) old else old) else if b then leaving out (gate + 1) (behind_gate r) old else staged)
      by_call true b true hit = first_opens out
      by_call true b false hit = old_opens
      by_call false true m hit = first_opens out
      by_call false false m hit = behind_opens (behind_gate r)

  -- the gate's write was called
  second_called : (f : Fuse) (out : Outcome)
      → OpensTo (with_if (if hits f then is_made f && leaves_open out else if hits (burnt f) then leaves_open out else true) records r) (left_writing f out gate (1 ∷ []) staged)
  second_called f out = by_call (hits f) (hits (burnt f)) (is_made f)
    where
      by_call : (a b m : Bool)
          → OpensTo (with_if (if a then m && leaves_open out else if b then leaves_open out else true) records r) (if a then (if m then leaving out gate (1 ∷ []) staged else staged) else if b then leaving out gate (1 ∷ []) staged else written gate (1 ∷ []) staged)
      by_call true b true = second_opens out
      by_call true b false = behind_opens (behind_gate r)
      by_call false true m = second_opens out
      by_call false false m = new_opens

  pub noting_opens : (f : Fuse) (out : Outcome) → OpensTo (with_if (stands f out) records r) (left_noting f out gate (behind_gate r) old)
  noting_opens f out = elim (cases_Bool (both_pass f)) [
    | inl pass ↦ rw pass (second_called (burnt_both f) out)
    | inr hit ↦ rw hit (first_hit f out hit)
  ]

-- an append whose disk was settled by each outcome
pub append_leaves : (armed : Option Fuse) (held : Option (List ℕ)) (old new : Outcome → Option (List ℕ)) (gate : ℕ) (r : Record) → IfSome held (EndsAt gate) → IsReadBack r → IsSettledEach held old
    → LeavesUnder armed held old new (λ f out bytes. left_noting f out gate (behind_gate r) bytes) → IfSome armed (λ f. AppendLeaves f (book_of held) new r)
append_leaves None held old new gate r ends back settled leaves = tt
append_leaves (Some f) None old new gate r ends back settled leaves = tt
append_leaves (Some f) (Some bytes) old new gate r ends back settled leaves = λ out.
    subst (λ left. IfSome left (OpensTo (with_if (stands f out) (records_in bytes) r))) (sym (leaves settled out)) (noting_opens r bytes gate ends back f out)
