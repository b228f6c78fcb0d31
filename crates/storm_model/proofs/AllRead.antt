-- all is saved, and both readers have read all
use Rattle.std.proofs.Common.{◌≡◌, ℕ, ◌≤◌, true, false, Some, List, [], ◌∷◌, map, length, refl, ap, sym, ◌∙◌, subst, arith}
use Rattle.std.specs.FinMap as finite
use Rattle.std.specs.List.{fold, AllByRecursion}
use Rattle.vb_types.specs.Images.{Picture, applied, nothing}
use Rattle.vb_types.specs.declared.position.TheConstants.{MAX_SEQ}
use Rattle.vb_types.specs.declared.write.Write.{Write}
use Rattle.vb_calls.specs.declared.calls.VbCall.{VbCall}
use Rattle.vb_calls.specs.declared.calls.VbCall.TheVariants as call
use Rattle.vb_calls.specs.declared.calls.VbReply.{VbReply}
use Rattle.vb_calls.specs.Plain.{plain_step}
use Rattle.vb_calls.specs.State.{Plain, image_in}
use Rattle.vb_turn.specs.History.{after}
use Rattle.vb_calls.specs.Spans.{all_spans}
use Rattle.vb_calls.specs.Streams.{stream_at}
use Rattle.storm_model.specs.declared.lines.StormLine.{StormLine}
use Rattle.storm_model.specs.Histories.{AreStores, IsPut, put_in, stores}
use Rattle.storm_model.specs.Ledgers.{ledger}
use Rattle.storm_model.specs.Limits.{is_storm}
use Rattle.storm_model.specs.Writes.{writes_of}
use Rattle.storm_model.specs.Sums.{contents, flushed, in_turn, line_of, read, storm_vb, stored, value_sum}
use Rattle.storm_model.specs.Laws.{AllIsRead, SameLine}
use Rattle.storm_model.proofs.Agreeing.{as_long, puts_of, storm_calm, turn_order, turn_owned, turn_room, turn_shown}
use Rattle.storm_model.proofs.Draining.{Drained, drained}
use Rattle.storm_model.proofs.Lining.{Chain, Lined, Numbered, chain_rises, reader, storm_lined}
use Rattle.storm_model.proofs.Reading.{read_all, read_whole, stretch_past}
use Rattle.storm_model.proofs.Shown.{contents_is, contents_same}
use Rattle.storm_model.proofs.Ledgering.{same_by_keys}
use Rattle.storm_model.proofs.Owners.{same_at_keys}

-- the line of a vBucket with so many changes and these documents, of which all is saved and read
abbrev pub line_with : ℕ → List (List ℕ × List ℕ) → StormLine
line_with n docs = record { high = n; docs = length docs; sum = value_sum docs; saved = n; read_first = value_sum docs; read_second = value_sum docs }

module _ (v : ℕ) (ws : List Write) (puts : AllByRecursion IsPut ws) (room : length ws ≤ MAX_SEQ) where
  abbrev vb : Plain
  vb = storm_vb v ws

  abbrev done : Plain
  done = flushed vb.position.at vb

  lined : Lined vb (length ws)
  lined = storm_lined v ws puts room

  pub high : vb.position.at ≡ length ws
  high = (storm_calm v ws puts room).high

  enough : length (all_spans vb.spans) ≤ vb.position.at
  enough = let r = chain_rises 0 (length ws) (all_spans vb.spans) lined.chain in let h = high in omega (arith, r, h)

  all_done : Drained done vb (length ws)
  all_done = drained vb.position.at vb 0 (length ws) [] (all_spans vb.spans) refl refl lined.chain (storm_calm v ws puts room).waiting lined.flushed lined.saved enough

  pub is_saved : done.saved ≡ vb.position.at
  is_saved = all_done.saved ∙ sym high

  num_done : Numbered 0 (length ws) done.held
  num_done = subst (Numbered 0 (length ws)) (sym all_done.held) lined.held

  chain_done : Chain 0 (length ws) (all_spans done.spans)
  chain_done = subst (λ spans. Chain 0 (length ws) (all_spans spans)) (sym all_done.spans) lined.chain

  long_enough : length (all_spans done.spans) ≤ vb.position.at
  long_enough = let a : length (all_spans done.spans) ≡ length (all_spans vb.spans) = ap (λ spans. length (all_spans spans)) all_done.spans in let c = enough in omega (arith, a, c)

  -- what a reader with this stream has
  reader_has : (id : ℕ) → stream_at id (reader 1 0 false ∷ reader 2 0 false ∷ []) ≡ Some (reader id 0 false) → (q : List ℕ) → finite.get (read vb.position.at id done nothing).docs q ≡ finite.get (image_in vb).docs q
  reader_has id e q =
      let num : Numbered 0 (length ws) done.held = num_done in
      read_whole (read vb.position.at id done nothing) done.held (length ws) num
      (read_all vb.position.at id done nothing 0 (length ws) false [] (all_spans done.spans)
      (ap (stream_at id) (all_done.streams ∙ lined.streams) ∙ e) refl refl chain_done num
      (λ k. ap (λ cs. finite.get (fold applied nothing cs).docs k) (sym (stretch_past 0 (length ws) 0 0 done.held num (omega arith)))) long_enough) q
      ∙ ap (λ cs. finite.get (fold applied nothing cs).docs q) all_done.held
      ∙ ap (λ (b : Picture). finite.get (fold applied b vb.held).docs q) (sym lined.base)

  pub reads_all : (id : ℕ) → stream_at id (reader 1 0 false ∷ reader 2 0 false ∷ []) ≡ Some (reader id 0 false) → contents (read vb.position.at id done nothing) ≡ contents (image_in vb)
  reads_all id e = contents_same (read vb.position.at id done nothing) (image_in vb) (reader_has id e)

  -- the line in the words of the writes
  pub line_is : (docs : List (List ℕ × List ℕ)) → contents (image_in vb) ≡ docs → line_of vb ≡ line_with (length ws) docs
  line_is docs shown =
      let saved : done.saved ≡ length ws = is_saved ∙ high in
      let one : contents (read vb.position.at 1 done nothing) ≡ docs = reads_all 1 refl ∙ shown in
      let two : contents (read vb.position.at 2 done nothing) ≡ docs = reads_all 2 refl ∙ shown in
      (λ i. record { high = high i; docs = length (shown i); sum = value_sum (shown i); saved = saved i; read_first = value_sum (one i); read_second = value_sum (two i) })

module _ (seed clients writes v : ℕ) (fits : is_storm clients writes ≡ true) where
  turn_puts : AllByRecursion IsPut (in_turn seed clients writes v)
  turn_puts = puts_of seed clients writes v fits (in_turn seed clients writes v) (turn_owned seed clients writes v fits) (turn_order seed clients writes v fits)

  turn_saved : (line_of (storm_vb v (in_turn seed clients writes v))).saved ≡ (line_of (storm_vb v (in_turn seed clients writes v))).high
  turn_saved = is_saved v (in_turn seed clients writes v) turn_puts (turn_room seed clients writes v fits)

  turn_read : (id : ℕ) → stream_at id (reader 1 0 false ∷ reader 2 0 false ∷ []) ≡ Some (reader id 0 false)
      → value_sum (contents (read (storm_vb v (in_turn seed clients writes v)).position.at id (done v (in_turn seed clients writes v) turn_puts (turn_room seed clients writes v fits)) nothing)) ≡ value_sum (contents (image_in (storm_vb v (in_turn seed clients writes v))))
  turn_read id e = ap value_sum (reads_all v (in_turn seed clients writes v) turn_puts (turn_room seed clients writes v fits) id e)

  -- the line of the clients one after the other
  pub turn_line : line_of (storm_vb v (in_turn seed clients writes v)) ≡ line_with (length (in_turn seed clients writes v)) (finite.entries (ledger (map put_in (in_turn seed clients writes v))))
  turn_line = line_is v (in_turn seed clients writes v) turn_puts (turn_room seed clients writes v fits) (finite.entries (ledger (map put_in (in_turn seed clients writes v)))) (turn_shown seed clients writes v fits)

  -- and of any order in which each client's writes stand in the client's order
  pub same_line : SameLine seed clients writes v
  same_line ws owned order =
      let n = as_long seed clients writes v fits ws owned order in
      let puts = puts_of seed clients writes v fits ws owned order in
      let room : length ws ≤ MAX_SEQ = let m = turn_room seed clients writes v fits in omega (arith, n, m) in
      let calm = storm_calm v ws puts room in
      let same : ledger (map put_in ws) ≡ ledger (map put_in (in_turn seed clients writes v)) =
      same_by_keys (map put_in ws) (map put_in (in_turn seed clients writes v)) (same_at_keys (λ c. writes_of seed c writes v) clients ws (in_turn seed clients writes v) owned order (turn_owned seed clients writes v fits) (turn_order seed clients writes v fits)) in
      line_is v ws puts room (finite.entries (ledger (map put_in ws))) (contents_is (image_in (storm_vb v ws)) (ledger (map put_in ws)) calm.docs)
      ∙ (λ i. line_with (n i) (finite.entries (same i))) ∙ sym turn_line

pub all_is_read : (seed clients writes : ℕ) → is_storm clients writes ≡ true → AllIsRead seed clients writes
all_is_read seed clients writes fits =
    let s = λ (v : ℕ). turn_saved seed clients writes v fits in
    let one = λ (v : ℕ). turn_read seed clients writes v fits 1 refl in
    let two = λ (v : ℕ). turn_read seed clients writes v fits 2 refl in
    record {
      saved = (s 0, (s 1, (s 2, (s 3, tt))));
      first = (one 0, (one 1, (one 2, (one 3, tt))));
      second = (two 0, (two 1, (two 2, (two 3, tt))));
    }

-- ---- Stores alone

pub behind_stores : (log : List (VbCall × VbReply)) (start : Plain) → AreStores log → after plain_step start log ≡ fold stored start (stores log)
behind_stores [] start a = refl
behind_stores ((call.Store write clock, r) ∷ log) start a = ap (λ (k : ℕ). after plain_step (plain_step start (call.Store write k)).0 log) a.0 ∙ behind_stores log (stored start write) a.1
behind_stores ((other, r) ∷ log) start a = absurd a.0
