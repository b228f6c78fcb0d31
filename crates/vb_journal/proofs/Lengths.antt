-- how long payloads and their parts are
use Rattle.std.proofs.Common.{◌≡◌, ℕ, ◌+◌, ◌*◌, ◌≤◌, List, [], ◌∷◌, ◌++◌, length, refl, arith, length-append}
use Rattle.std.specs.Int.{w32, to_be_bytes}
use Rattle.std.specs.List.{flat_map}
use Rattle.vb_types.specs.declared.change.Change.{Change}
use Rattle.vb_types.specs.declared.doc.Doc.{Doc}
use Rattle.vb_types.specs.declared.journal.Batch.{Batch}
use Rattle.vb_types.specs.declared.journal.Record.TheVariants as noted
use Rattle.vb_types.specs.declared.role.LogEntry.{LogEntry}
use Rattle.vb_journal.specs.Payloads.{entry_bytes, log_bytes, doc_head, doc_bytes, act_bytes, item_bytes, batch_bytes, payload_of}

length_entries : (log : List LogEntry) → length (flat_map entry_bytes log) ≡ 16 * length log
length_entries [] = refl
length_entries (e ∷ log) = omega (arith, length_entries log, length-append (entry_bytes e) (flat_map entry_bytes log))

pub length_log : (log : List LogEntry) → length (log_bytes log) ≡ 1 + 16 * length log
unfolding log_bytes
length_log log = omega (arith, length_entries log)

pub length_doc : (d : Doc) → length (doc_bytes d) ≡ 29 + length d.value
unfolding doc_bytes doc_head
length_doc d = omega arith

-- the bytes of an item before its key, the key, and what the act says
pub length_item : (c : Change) → length (item_bytes c) ≡ 10 + (length c.key + length (act_bytes c.act))
unfolding item_bytes
length_item c = omega (arith, length-append c.key (act_bytes c.act))

-- there are no more items than bytes of them
pub count_items : (items : List Change) → length items ≤ length (flat_map item_bytes items)
count_items [] = omega arith
count_items (c ∷ items) = omega (arith, count_items items, length_item c, length-append (item_bytes c) (flat_map item_bytes items))

pub length_batch : (b : Batch) → length (batch_bytes b) ≡ 36 + (length (log_bytes b.log) + length (flat_map item_bytes b.items))
unfolding batch_bytes
length_batch b =
    let items : List ℕ = flat_map item_bytes b.items in
    let count : List ℕ = to_be_bytes w32 (length b.items) in
    omega (arith, length-append (log_bytes b.log) count, length-append (log_bytes b.log ++ count) items)

pub length_rows : (b : Batch) → length (payload_of (noted.Rows b)) ≡ 2 + length (batch_bytes b)
unfolding payload_of
length_rows b = omega arith
