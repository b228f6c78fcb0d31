-- a record of a journal as bytes, and back
use Rattle.std.specs.Prelude.{ℕ, zero, suc, ◌+◌, ◌*◌, ◌/◌, ◌==◌, ◌&&◌, not, nat_lt, nat_le, Bool, true, false, if◌then◌else◌, List, [], ◌∷◌, ◌++◌, length, take, drop, map, slice_index, slice_range, Option, Some, None, option_map, option_and_then}
use Rattle.std.specs.List.{flat_map}
use Rattle.std.specs.Int.{w32, w64, to_be_bytes, from_be_bytes}
use Rattle.std.specs.Simd.{first_chunks}
use Rattle.vb_types.specs.declared.change.Act.{Act}
use Rattle.vb_types.specs.declared.change.Act.TheVariants as act
use Rattle.vb_types.specs.declared.change.Change.{Change}
use Rattle.vb_types.specs.declared.change.Level.{Level}
use Rattle.vb_types.specs.Levels.{level_number, level_of}
use Rattle.vb_types.specs.declared.doc.Doc.{Doc}
use Rattle.vb_types.specs.declared.journal.Batch.{Batch}
use Rattle.vb_types.specs.declared.journal.Record.{Record}
use Rattle.vb_types.specs.declared.journal.Record.TheVariants as noted
use Rattle.vb_types.specs.declared.role.LogEntry.{LogEntry}
use Rattle.vb_types.specs.declared.role.Role.{Role}
use Rattle.vb_types.specs.declared.role.Role.TheVariants as role
use Rattle.vb_types.specs.Limits.{key_of, value_of}
use Rattle.vb_journal.specs.declared.payload.TheConstants.{VERSION, STATE, ROWS, ROLL, MAX_LOG, MAX_PAYLOAD, ENTRY_LEN, DOC_HEAD, ITEM_HEAD, ROWS_HEAD}

-- the byte of a role. That of Pending is not written
abbrev pub role_byte : Role → ℕ
role_byte role.Active = 1
role_byte role.Replica = 2
role_byte role.Pending = 3
role_byte role.Dead = 4

-- 1 for yes
abbrev pub flag_byte : Bool → ℕ
flag_byte flag = if flag then 1 else 0

-- an entry of a failover log: the branch's id, and the seqno at which it was made
abbrev pub entry_bytes : LogEntry → List ℕ
entry_bytes e = to_be_bytes w64 e.uuid ++ to_be_bytes w64 e.seq

-- a log: how many entries, and then these, the newest first
unfoldable pub log_bytes : List LogEntry → List ℕ
log_bytes log = length log ∷ flat_map entry_bytes log

-- a document before its value: CAS, revision, flags, expiration, datatype, and the value's length
unfoldable pub doc_head : Doc → List ℕ
doc_head d =
    to_be_bytes w64 d.cas ++ to_be_bytes w64 d.rev ++ to_be_bytes w32 d.flags ++ to_be_bytes w32 d.expiry ++ d.datatype ∷ []
    ++ to_be_bytes w32 (length d.value)

-- a document, with the value last
unfoldable pub doc_bytes : Doc → List ℕ
doc_bytes d = doc_head d ++ d.value

-- which act it is
abbrev pub act_byte : Act → ℕ
act_byte (act.Set doc) = 1
act_byte (act.Remove cas rev) = 2
act_byte (act.Prepare level doc deleted) = 3
act_byte (act.Commit prepared doc deleted) = 4
act_byte (act.Abort prepared) = 5

-- what the act says
unfoldable pub act_bytes : Act → List ℕ
act_bytes (act.Set doc) = doc_bytes doc
act_bytes (act.Remove cas rev) = to_be_bytes w64 cas ++ to_be_bytes w64 rev
act_bytes (act.Prepare level doc deleted) = level_number level ∷ flag_byte deleted ∷ doc_bytes doc
act_bytes (act.Commit prepared doc deleted) = to_be_bytes w64 prepared ++ flag_byte deleted ∷ doc_bytes doc
act_bytes (act.Abort prepared) = to_be_bytes w64 prepared

-- a change: seqno, act, the key behind its length, and what the act says
unfoldable pub item_bytes : Change → List ℕ
item_bytes c = to_be_bytes w64 c.seq ++ act_byte c.act ∷ length c.key ∷ c.key ++ act_bytes c.act

-- a batch: snapshot start and end, the seqno that it reaches, the last CAS, the log, and the changes behind their count
unfoldable pub batch_bytes : Batch → List ℕ
batch_bytes b =
    to_be_bytes w64 b.position.ss ++ to_be_bytes w64 b.position.se ++ to_be_bytes w64 b.position.at ++ to_be_bytes w64 b.cas
    ++ log_bytes b.log ++ to_be_bytes w32 (length b.items) ++ flat_map item_bytes b.items

-- the payload of a record: the format's version, the record's kind, and what it says
unfoldable pub payload_of : Record → List ℕ
payload_of (noted.State role log) = VERSION ∷ STATE ∷ role_byte role ∷ log_bytes log
payload_of (noted.Rows b) = VERSION ∷ ROWS ∷ batch_bytes b
payload_of (noted.Roll to) = VERSION ∷ ROLL ∷ to_be_bytes w64 to

-- the first change, if there is one, has a greater seqno
abbrev pub is_below : ℕ → List Change → Bool
is_below seq [] = true
is_below seq (c ∷ cs) = nat_lt seq c.seq

-- each change has a greater seqno than the one before
abbrev pub rise : List Change → Bool
rise [] = true
rise (c ∷ cs) = is_below c.seq cs && rise cs

-- a vBucket is never pending for good
abbrev pub is_kept : Role → Bool
is_kept role.Active = true
is_kept role.Replica = true
is_kept role.Pending = false
is_kept role.Dead = true

-- what a record must have to be written, its length apart
abbrev pub has_form : Record → Bool
has_form (noted.State role log) = is_kept role && nat_le (length log) MAX_LOG
has_form (noted.Rows b) = nat_le (length b.log) MAX_LOG && rise b.items
has_form (noted.Roll to) = true

-- what an append asks of its record
unfoldable pub is_writable : Record → Bool
is_writable r = has_form r && nat_le (length (payload_of r)) MAX_PAYLOAD

-- the role of a byte
abbrev pub role_by_byte : ℕ → Option Role
role_by_byte n =
    if n == 1 then Some role.Active else if n == 2 then Some role.Replica else if n == 4 then Some role.Dead else None

-- yes or no
abbrev pub flag_in : ℕ → Option Bool
flag_in n = if n == 0 then Some false else if n == 1 then Some true else None

-- the big-endian number of 4 bytes from a place on
abbrev pub number_32 : List ℕ → ℕ → ℕ
number_32 bytes at = from_be_bytes w32 (take 4 (drop at bytes))

-- of 8 bytes
abbrev pub number_64 : List ℕ → ℕ → ℕ
number_64 bytes at = from_be_bytes w64 (take 8 (drop at bytes))

-- what bytes begin with, made into something else; what stands behind it stays
abbrev pub front_map : {A B : Type 0} → (A → B) → Option (A × List ℕ) → Option (B × List ℕ)
front_map make None = None
front_map make (Some (a, rest)) = Some (make a, rest)

-- what bytes are, where nothing stands behind it
abbrev pub whole : {A : Type 0} → Option (A × List ℕ) → Option A
whole None = None
whole (Some (a, rest)) = if length rest == 0 then Some a else None

-- the entry that 16 bytes are
abbrev pub entry_in : List ℕ → LogEntry
entry_in bytes = record { uuid = number_64 bytes 0; seq = number_64 bytes 8 }

-- the entries that bytes are
unfoldable pub entries_in : List ℕ → List LogEntry
entries_in bytes = map entry_in (first_chunks ENTRY_LEN (length bytes / ENTRY_LEN) bytes)

-- where the log ends that bytes begin with
abbrev pub log_end : List ℕ → ℕ
log_end bytes = 1 + ENTRY_LEN * slice_index bytes 0

-- the log that bytes begin with
unfoldable pub log_in : List ℕ → Option (List LogEntry × List ℕ)
log_in bytes =
    if length bytes == 0 then None
    else if nat_lt MAX_LOG (slice_index bytes 0) then None
    else if nat_lt (length bytes) (log_end bytes) then None
    else Some (entries_in (slice_range bytes 1 (log_end bytes)), drop (log_end bytes) bytes)

-- where the document ends that bytes begin with: the value's length stands before the value
abbrev pub doc_end : List ℕ → ℕ
doc_end bytes = DOC_HEAD + number_32 bytes 25

-- the document of these numbers, with this value
unfoldable pub doc_with : List ℕ → List ℕ → Doc
doc_with bytes value = record {
  value = value;
  cas = number_64 bytes 0;
  rev = number_64 bytes 8;
  flags = number_32 bytes 16;
  expiry = number_32 bytes 20;
  datatype = slice_index bytes 24;
}

-- the document with this value, if that is one
abbrev pub doc_from : List ℕ → Option (List ℕ) → Option (Doc × List ℕ)
doc_from bytes None = None
doc_from bytes (Some value) = Some (doc_with bytes value, drop (doc_end bytes) bytes)

-- the document that bytes begin with
unfoldable pub doc_in : List ℕ → Option (Doc × List ℕ)
doc_in bytes =
    if nat_lt (length bytes) DOC_HEAD then None
    else if nat_lt (length bytes) (doc_end bytes) then None
    else doc_from bytes (value_of (slice_range bytes DOC_HEAD (doc_end bytes)))

-- a removal: CAS and revision
abbrev pub remove_in : List ℕ → Option (Act × List ℕ)
remove_in bytes =
    if nat_lt (length bytes) 16 then None else Some (act.Remove (number_64 bytes 0) (number_64 bytes 8), drop 16 bytes)

-- a prepare of this level, if it is one, and with this flag
abbrev pub prepare_from : Option Level → Option Bool → Option (Doc × List ℕ) → Option (Act × List ℕ)
prepare_from None deleted doc = None
prepare_from (Some level) None doc = None
prepare_from (Some level) (Some deleted) doc = front_map (λ d. act.Prepare level d deleted) doc

-- a prepare: level, flag and document
abbrev pub prepare_in : List ℕ → Option (Act × List ℕ)
prepare_in bytes =
    if nat_lt (length bytes) 2 then None
    else prepare_from (level_of (slice_index bytes 0)) (flag_in (slice_index bytes 1)) (doc_in (drop 2 bytes))

-- a commit of this prepare with this flag, if it is one
abbrev pub commit_from : ℕ → Option Bool → Option (Doc × List ℕ) → Option (Act × List ℕ)
commit_from prepared None doc = None
commit_from prepared (Some deleted) doc = front_map (λ d. act.Commit prepared d deleted) doc

-- a commit: the prepare's seqno, flag and document
abbrev pub commit_in : List ℕ → Option (Act × List ℕ)
commit_in bytes =
    if nat_lt (length bytes) 9 then None
    else commit_from (number_64 bytes 0) (flag_in (slice_index bytes 8)) (doc_in (drop 9 bytes))

-- an abort: the prepare's seqno
abbrev pub abort_in : List ℕ → Option (Act × List ℕ)
abort_in bytes = if nat_lt (length bytes) 8 then None else Some (act.Abort (number_64 bytes 0), drop 8 bytes)

-- what an act of this byte says
unfoldable pub act_in : ℕ → List ℕ → Option (Act × List ℕ)
act_in n bytes =
    if n == 1 then front_map (λ d. act.Set d) (doc_in bytes)
    else if n == 2 then remove_in bytes
    else if n == 3 then prepare_in bytes
    else if n == 4 then commit_in bytes
    else if n == 5 then abort_in bytes
    else None

-- where the key ends of the change that bytes begin with
abbrev pub key_end : List ℕ → ℕ
key_end bytes = ITEM_HEAD + slice_index bytes 9

-- the change of this key, if it is one
abbrev pub item_from : ℕ → Option (List ℕ) → Option (Act × List ℕ) → Option (Change × List ℕ)
item_from seq None act = None
item_from seq (Some key) act = front_map (λ a. record { seq = seq; key = key; act = a }) act

-- the change that bytes begin with
unfoldable pub item_in : List ℕ → Option (Change × List ℕ)
item_in bytes =
    if nat_lt (length bytes) ITEM_HEAD then None
    else if nat_lt (length bytes) (key_end bytes) then None
    else item_from (number_64 bytes 0) (key_of (slice_range bytes ITEM_HEAD (key_end bytes)))
    (act_in (slice_index bytes 8) (drop (key_end bytes) bytes))

-- so many changes, one behind another
unfoldable pub items_in : ℕ → List ℕ → Option (List Change × List ℕ)
items_in zero bytes = Some ([], bytes)
items_in (suc n) bytes = option_and_then (λ item. front_map (λ items. item.0 ∷ items) (items_in n item.1)) (item_in bytes)

-- changes whose seqnos rise
abbrev pub rising : Option (List Change) → Option (List Change)
rising None = None
rising (Some items) = if rise items then Some items else None

-- the changes that bytes are, behind their count
unfoldable pub changes_in : List ℕ → Option (List Change)
changes_in bytes =
    if nat_lt (length bytes) 4 then None else rising (whole (items_in (number_32 bytes 0) (drop 4 bytes)))

-- the batch of these four numbers, this log and what stands behind it
abbrev pub batch_from : List ℕ → Option (List LogEntry × List ℕ) → Option Record
batch_from bytes None = None
batch_from bytes (Some (log, rest)) = option_map (λ items. noted.Rows (record {
  position = record { ss = number_64 bytes 0; se = number_64 bytes 8; at = number_64 bytes 16 };
  cas = number_64 bytes 24;
  log = log;
  items = items;
})) (changes_in rest)

-- the batch that bytes are
unfoldable pub batch_in : List ℕ → Option Record
batch_in bytes = if nat_lt (length bytes) ROWS_HEAD then None else batch_from bytes (log_in (drop ROWS_HEAD bytes))

-- a State of this role, if it is one
abbrev pub state_from : Option Role → Option (List LogEntry) → Option Record
state_from None log = None
state_from (Some role) log = option_map (λ l. noted.State role l) log

-- the State that bytes are
unfoldable pub state_in : List ℕ → Option Record
state_in bytes =
    if length bytes == 0 then None else state_from (role_by_byte (slice_index bytes 0)) (whole (log_in (drop 1 bytes)))

-- the Roll that bytes are
abbrev pub roll_in : List ℕ → Option Record
roll_in bytes = if length bytes == 8 then Some (noted.Roll (number_64 bytes 0)) else None

-- what a record of this kind says
abbrev pub record_of_kind : ℕ → List ℕ → Option Record
record_of_kind kind bytes =
    if kind == STATE then state_in bytes
    else if kind == ROWS then batch_in bytes
    else if kind == ROLL then roll_in bytes
    else None

-- the record of a payload; none where bytes are no payload
unfoldable pub record_in : List ℕ → Option Record
record_in bytes =
    if nat_lt MAX_PAYLOAD (length bytes) then None
    else if nat_lt (length bytes) 2 then None
    else if not (slice_index bytes 0 == VERSION) then None
    else record_of_kind (slice_index bytes 1) (drop 2 bytes)
