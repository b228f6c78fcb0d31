-- the parts of a payload that are written are read back, whatever follows them
use Rattle.std.proofs.Common.{◌≡◌, ℕ, ◌+◌, ◌-◌, ◌*◌, ◌/◌, ◌<◌, ◌≤◌, ◌++◌, Bool, true, false, List, [], ◌∷◌, length, take, drop, map, cond, refl, ap, sym, ◌∙◌, arith, length-append, append_assoc}
use Rattle.std.specs.Prelude.{Option, Some, None, ◌==◌, ◌&&◌, nat_lt, nat_le, slice_index, slice_range, option_and_then}
use Rattle.std.specs.Int.{w64, to_be_bytes}
use Rattle.std.specs.List.{flat_map, All}
use Rattle.std.specs.Simd.{first_chunks}
use Rattle.std.proofs.Math.Seq.{take-append_seam, drop-append_seam}
use Rattle.std.proofs.lemmas.Bool.Decides.{nat_tests}
use Rattle.std.proofs.lemmas.List.Elements.{All-head, All-tail}
use Rattle.std.proofs.lemmas.Nat.{from_be_bytes-to_be_bytes_4, from_be_bytes-to_be_bytes_8}
use Rattle.vb_types.specs.Limits.{value_of, key_of}
use Rattle.vb_types.specs.declared.change.Act.{Act}
use Rattle.vb_types.specs.declared.change.Act.TheVariants as act
use Rattle.vb_types.specs.declared.change.Change.{Change}
use Rattle.vb_types.specs.declared.change.Level.{Level}
use Rattle.vb_types.proofs.Levels.{level_back}
use Rattle.vb_types.specs.declared.doc.Doc.{Doc}
use Rattle.vb_types.specs.declared.role.LogEntry.{LogEntry}
use Rattle.vb_journal.specs.Fitting.{EntryFits, DocFits, ActFits, ItemFits}
use Rattle.vb_journal.specs.Payloads.{entry_bytes, log_bytes, doc_head, doc_bytes, act_byte, act_bytes, item_bytes, flag_byte, flag_in, number_64, front_map, entry_in, entries_in, log_in, doc_end, doc_with, doc_from, doc_in, prepare_from, commit_from, act_in, key_end, item_from, item_in, items_in}
use Rattle.vb_journal.proofs.Lengths.{length_log, length_doc, length_item}

entry_back : (e : LogEntry) → EntryFits e → entry_in (entry_bytes e) ≡ e
entry_back e r = λ i. record { uuid = from_be_bytes-to_be_bytes_8 e.uuid r.uuid i; seq = from_be_bytes-to_be_bytes_8 e.seq r.seq i }

chunks_back : (log : List LogEntry) → All EntryFits log → map entry_in (first_chunks 16 (length log) (flat_map entry_bytes log)) ≡ log
chunks_back [] r = refl
chunks_back (e ∷ log) r =
    let front : take 16 (entry_bytes e ++ flat_map entry_bytes log) ≡ entry_bytes e = take-append_seam (entry_bytes e) (flat_map entry_bytes log) in
    let rest : drop 16 (entry_bytes e ++ flat_map entry_bytes log) ≡ flat_map entry_bytes log = drop-append_seam (entry_bytes e) (flat_map entry_bytes log) in
    λ i. (ap entry_in front ∙ entry_back e (All-head EntryFits e log r)) i ∷ (ap (λ l. map entry_in (first_chunks 16 (length log) l)) rest ∙ chunks_back log (All-tail EntryFits e log r)) i

length_flat : (log : List LogEntry) → length (flat_map entry_bytes log) ≡ 16 * length log
unfolding log_bytes
length_flat log = omega (arith, length_log log)

entries_back : (log : List LogEntry) → All EntryFits log → entries_in (flat_map entry_bytes log) ≡ log
unfolding entries_in
entries_back log r =
    let count : length (flat_map entry_bytes log) / 16 ≡ length log = omega (arith, length_flat log) in
    ap (λ n. map entry_in (first_chunks 16 n (flat_map entry_bytes log))) count ∙ chunks_back log r

pub log_back : (log : List LogEntry) (rest : List ℕ) → length log ≤ 25 → All EntryFits log → log_in (log_bytes log ++ rest) ≡ Some (log, rest)
unfolding log_in log_bytes
log_back log rest h r =
    let flat : List ℕ = flat_map entry_bytes log in
    let bytes : List ℕ = length log ∷ flat ++ rest in
    let len : length bytes ≡ 1 + (length flat + length rest) = omega (arith, length-append flat rest) in
    let some : (length bytes == 0) ≡ false = grind (arith, nat_tests, len) in
    let short : nat_lt 25 (length log) ≡ false = grind (arith, nat_tests, h) in
    let whole : nat_lt (length bytes) (1 + 16 * length log) ≡ false = grind (arith, nat_tests, len, length_flat log) in
    let size : 1 + 16 * length log - 1 ≡ length flat = omega (arith, length_flat log) in
    let entries : entries_in (slice_range bytes 1 (1 + 16 * length log)) ≡ log =
    ap (λ n. entries_in (take n (flat ++ rest))) size ∙ ap entries_in (take-append_seam flat rest) ∙ entries_back log r in
    let over : 1 + 16 * length log ≡ length (length log ∷ flat) = omega (arith, length_flat log) in
    let left : drop (1 + 16 * length log) bytes ≡ rest = ap (λ n. drop n bytes) over ∙ drop-append_seam (length log ∷ flat) rest in
    λ i. cond (some i) None (cond (short i) None (cond (whole i) None (Some (entries i, left i))))

doc_with_back : (d : Doc) (rest : List ℕ) → DocFits d → doc_with (doc_bytes d ++ rest) d.value ≡ d
unfolding doc_with doc_bytes doc_head
doc_with_back d rest r = λ i. record {
  value = d.value;
  cas = from_be_bytes-to_be_bytes_8 d.cas r.cas i;
  rev = from_be_bytes-to_be_bytes_8 d.rev r.rev i;
  flags = from_be_bytes-to_be_bytes_4 d.flags r.flags i;
  expiry = from_be_bytes-to_be_bytes_4 d.expiry r.expiry i;
  datatype = d.datatype;
}

doc_end_back : (d : Doc) (rest : List ℕ) → DocFits d → doc_end (doc_bytes d ++ rest) ≡ 29 + length d.value
unfolding doc_bytes doc_head
doc_end_back d rest r = ap (λ n. 29 + n) (from_be_bytes-to_be_bytes_4 (length d.value) (omega (arith, r.value)))

value_back : (d : Doc) (rest : List ℕ) (end : ℕ) → end ≡ 29 + length d.value → slice_range (doc_bytes d ++ rest) 29 end ≡ d.value
unfolding doc_bytes doc_head
value_back d rest end e =
    let size : end - 29 ≡ length d.value = omega (arith, e) in
    ap (λ n. take n (d.value ++ rest)) size ∙ take-append_seam d.value rest

pub doc_back : (d : Doc) (rest : List ℕ) → DocFits d → doc_in (doc_bytes d ++ rest) ≡ Some (d, rest)
unfolding doc_in
doc_back d rest r =
    let bytes : List ℕ = doc_bytes d ++ rest in
    let len : length bytes ≡ 29 + length d.value + length rest = omega (arith, length-append (doc_bytes d) rest, length_doc d) in
    let end = doc_end_back d rest r in
    let head : nat_lt (length bytes) 29 ≡ false = grind (arith, nat_tests, len) in
    let whole : nat_lt (length bytes) (doc_end bytes) ≡ false = grind (arith, nat_tests, len, end) in
    let fits : nat_le (length d.value) 20971520 ≡ true = grind (arith, nat_tests, r.value) in
    let value : value_of (slice_range bytes 29 (doc_end bytes)) ≡ Some d.value =
    ap value_of (value_back d rest (doc_end bytes) end) ∙ ap (λ b. cond b (Some d.value) None) fits in
    let left : drop (doc_end bytes) bytes ≡ rest = ap (λ n. drop n bytes) (end ∙ sym (length_doc d)) ∙ drop-append_seam (doc_bytes d) rest in
    (λ i. cond (head i) None (cond (whole i) None (doc_from bytes (value i)))) ∙ (λ i. Some (doc_with_back d rest r i, left i))

flag_back : (b : Bool) → flag_in (flag_byte b) ≡ Some b
flag_back false = refl
flag_back true = refl

remove_back : (cas rev : ℕ) (rest : List ℕ) → cas < 18446744073709551616 → rev < 18446744073709551616 → act_in 2 (act_bytes (act.Remove cas rev) ++ rest) ≡ Some (act.Remove cas rev, rest)
unfolding act_in act_bytes
remove_back cas rev rest c r =
    let head : nat_lt (length (act_bytes (act.Remove cas rev) ++ rest)) 16 ≡ false = grind (arith, nat_tests) in
    λ i. cond (head i) None (Some (act.Remove (from_be_bytes-to_be_bytes_8 cas c i) (from_be_bytes-to_be_bytes_8 rev r i), rest))

abort_back : (prepared : ℕ) (rest : List ℕ) → prepared < 18446744073709551616 → act_in 5 (act_bytes (act.Abort prepared) ++ rest) ≡ Some (act.Abort prepared, rest)
unfolding act_in act_bytes
abort_back prepared rest p =
    let head : nat_lt (length (act_bytes (act.Abort prepared) ++ rest)) 8 ≡ false = grind (arith, nat_tests) in
    λ i. cond (head i) None (Some (act.Abort (from_be_bytes-to_be_bytes_8 prepared p i), rest))

prepare_back : (l : Level) (d : Doc) (b : Bool) (rest : List ℕ) → DocFits d → act_in 3 (act_bytes (act.Prepare l d b) ++ rest) ≡ Some (act.Prepare l d b, rest)
unfolding act_in act_bytes
prepare_back l d b rest r =
    let head : nat_lt (length (act_bytes (act.Prepare l d b) ++ rest)) 2 ≡ false = grind (arith, nat_tests) in
    λ i. cond (head i) None (prepare_from (level_back l i) (flag_back b i) (doc_back d rest r i))

commit_back : (prepared : ℕ) (d : Doc) (b : Bool) (rest : List ℕ) → prepared < 18446744073709551616 → DocFits d → act_in 4 (act_bytes (act.Commit prepared d b) ++ rest) ≡ Some (act.Commit prepared d b, rest)
unfolding act_in act_bytes
commit_back prepared d b rest p r =
    let head : nat_lt (length (act_bytes (act.Commit prepared d b) ++ rest)) 9 ≡ false = grind (arith, nat_tests) in
    λ i. cond (head i) None (commit_from (from_be_bytes-to_be_bytes_8 prepared p i) (flag_back b i) (doc_back d rest r i))

set_back : (d : Doc) (rest : List ℕ) → DocFits d → act_in 1 (act_bytes (act.Set d) ++ rest) ≡ Some (act.Set d, rest)
unfolding act_in act_bytes
set_back d rest r = ap (front_map (λ e. act.Set e)) (doc_back d rest r)

act_back : (a : Act) (rest : List ℕ) → ActFits a → act_in (act_byte a) (act_bytes a ++ rest) ≡ Some (a, rest)
act_back (act.Set doc) rest r = set_back doc rest r
act_back (act.Remove cas rev) rest r = remove_back cas rev rest r.0 r.1
act_back (act.Prepare level doc deleted) rest r = prepare_back level doc deleted rest r
act_back (act.Commit prepared doc deleted) rest r = commit_back prepared doc deleted rest r.0 r.1
act_back (act.Abort prepared) rest r = abort_back prepared rest r

key_back : (c : Change) (rest : List ℕ) (end : ℕ) → end ≡ 10 + length c.key → slice_range (item_bytes c ++ rest) 10 end ≡ c.key
unfolding item_bytes
key_back c rest end e =
    let size : end - 10 ≡ length c.key = omega (arith, e) in
    ap (λ n. take n ((c.key ++ act_bytes c.act) ++ rest)) size ∙ ap (take (length c.key)) (append_assoc c.key (act_bytes c.act) rest) ∙ take-append_seam c.key (act_bytes c.act ++ rest)

behind_key : (c : Change) (rest : List ℕ) → drop (10 + length c.key) (item_bytes c ++ rest) ≡ act_bytes c.act ++ rest
unfolding item_bytes
behind_key c rest =
    let head : List ℕ = to_be_bytes w64 c.seq ++ act_byte c.act ∷ length c.key ∷ c.key in
    let size : 10 + length c.key ≡ length head = omega arith in
    (λ i. drop (size i) (append_assoc head (act_bytes c.act) rest i)) ∙ drop-append_seam head (act_bytes c.act ++ rest)

key_end_back : (c : Change) (rest : List ℕ) → key_end (item_bytes c ++ rest) ≡ 10 + length c.key
unfolding item_bytes
key_end_back c rest = refl

act_at : (c : Change) (rest : List ℕ) → slice_index (item_bytes c ++ rest) 8 ≡ act_byte c.act
unfolding item_bytes
act_at c rest = refl

head_back : (c : Change) (rest : List ℕ) (k : Option (List ℕ)) (a : Option (Act × List ℕ)) → ItemFits c → k ≡ Some c.key → a ≡ Some (c.act, rest)
    → item_from (number_64 (item_bytes c ++ rest) 0) k a ≡ Some (c, rest)
unfolding item_bytes
head_back c rest k a r is e = (λ i. item_from (from_be_bytes-to_be_bytes_8 c.seq r.seq i) (is i) (e i))

pub item_back : (c : Change) (rest : List ℕ) → ItemFits c → item_in (item_bytes c ++ rest) ≡ Some (c, rest)
unfolding item_in
item_back c rest r =
    let bytes : List ℕ = item_bytes c ++ rest in
    let len : length bytes ≡ 10 + (length c.key + length (act_bytes c.act)) + length rest = omega (arith, length-append (item_bytes c) rest, length_item c) in
    let end : key_end bytes ≡ 10 + length c.key = key_end_back c rest in
    let head : nat_lt (length bytes) 10 ≡ false = grind (arith, nat_tests, len) in
    let whole : nat_lt (length bytes) (key_end bytes) ≡ false = grind (arith, nat_tests, len, end) in
    let fits : (nat_le 1 (length c.key) && nat_le (length c.key) 250) ≡ true = grind (arith, nat_tests, r.key.0, r.key.1) in
    let key : key_of (slice_range bytes 10 (key_end bytes)) ≡ Some c.key = ap key_of (key_back c rest (key_end bytes) end) ∙ ap (λ b. cond b (Some c.key) None) fits in
    let act : act_in (slice_index bytes 8) (drop (key_end bytes) bytes) ≡ Some (c.act, rest) =
    ap (λ n. act_in n (drop (key_end bytes) bytes)) (act_at c rest)
    ∙ ap (act_in (act_byte c.act)) (ap (λ n. drop n bytes) end ∙ behind_key c rest) ∙ act_back c.act rest r.act in
    (λ i. cond (head i) None (cond (whole i) None (item_from (number_64 bytes 0) (key_of (slice_range bytes 10 (key_end bytes))) (act_in (slice_index bytes 8) (drop (key_end bytes) bytes)))))
    ∙ head_back c rest (key_of (slice_range bytes 10 (key_end bytes))) (act_in (slice_index bytes 8) (drop (key_end bytes) bytes)) r key act

pub items_back : (items : List Change) (rest : List ℕ) → All ItemFits items → items_in (length items) (flat_map item_bytes items ++ rest) ≡ Some (items, rest)
unfolding items_in
items_back [] rest r = refl
items_back (c ∷ items) rest r =
    let front : item_in (flat_map item_bytes (c ∷ items) ++ rest) ≡ Some (c, flat_map item_bytes items ++ rest) =
    ap item_in (append_assoc (item_bytes c) (flat_map item_bytes items) rest) ∙ item_back c (flat_map item_bytes items ++ rest) (All-head ItemFits c items r) in
    ap (option_and_then (λ item. front_map (λ more. item.0 ∷ more) (items_in (length items) item.1))) front
    ∙ ap (front_map (λ more. c ∷ more)) (items_back items rest (All-tail ItemFits c items r))
