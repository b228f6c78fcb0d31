-- commits of durable writes that are told, judged by hand
use Rattle.std.proofs.Common.{List, [], ap, arith, inl, inr, false, true, refl, subst, sym, ℕ, ⊎_elim, ◌++◌, ◌∙◌, ◌∷◌, ◌≡◌, ◌⊎◌, ◌<◌}
use Rattle.std.specs.Prelude.{Bool, Option, Some}
unfoldable use Rattle.mcbp_dcp.specs.Messages.{read_of}
unfoldable use Rattle.mcbp_dcp.specs.Rows.{frame_row}
unfoldable use Rattle.mcbp_dcp.specs.Shapes.{shape_fault}
unfoldable use Rattle.mcbp_frame.specs.Cutting.{frames_in}
unfoldable use Rattle.mcbp_frame.specs.Frames.{first_frame, frame_of}
unfoldable use Rattle.mcbp_frame.specs.Spelling.{spelling}
unfoldable use Rattle.mcbp_kv.specs.Framing.{requirement_of}
unfoldable use Rattle.mcbp_kv.specs.Requests.{request_of}
use Rattle.client_session.specs.Rows.{seqno_part}
use Rattle.client_session.specs.declared.session.Settings.{Settings}
use Rattle.mcbp_frame.specs.declared.frame.Frame.{Frame}
use Rattle.mcbp_kv.specs.Answers.{IsBare, seqno_extras, stored_answer}
use Rattle.mcbp_kv.specs.Replies.{reply_frame}
use Rattle.mcbp_kv.specs.declared.durable.Durability.{Durability}
use Rattle.mcbp_kv.specs.declared.opcodes.TheConstants.{DELETE, SET}
use Rattle.vb_calls.specs.Following.{cas_of}
use Rattle.vb_calls.specs.{Durable.{is_delete}, Writes.{written_doc}}
use Rattle.vb_types.specs.Statuses.{status_code}
use Rattle.vb_types.specs.declared.change.Act.TheVariants as act
use Rattle.vb_types.specs.declared.change.Level.{Level}
use Rattle.vb_types.specs.declared.change.Level.TheVariants.{Majority, MajorityPersistActive}
use Rattle.vb_types.specs.declared.change.Pend.{Pend}
use Rattle.vb_types.specs.declared.doc.Doc.{Doc}
use Rattle.vb_types.specs.declared.role.Role.{Role}
use Rattle.vb_types.specs.declared.status.Status.{Status}
use Rattle.vb_types.specs.declared.write.Op.TheVariants as op
use Rattle.vb_types.specs.declared.write.Write.{Write}
use Rattle.transcript_law.specs.AnswerRows.{LawfulAwaited, LawfulAwaitedBy, LawfulTo, prepared_line, durably, durably_removes, for_seqnos, makes, makes_elsewhere, makes_far, once, stores, writes}
use Rattle.transcript_law.specs.ClientAskRows.{serving}
use Rattle.transcript_law.specs.UnsureRows.{had_committed}
use Rattle.transcript_law.specs.ClientStreamRows.{committed as committed_change, durable, pending, prepared as prepare_made}
use Rattle.transcript_law.specs.ClientStreams.{ClientsKnown, blank_client}
use Rattle.transcript_law.specs.LawfulAnswers.{CommitsOf, IsCommitted, IsUnsure, PreparesIn}
use Rattle.transcript_law.specs.Lawfulness.{LawfulChange}
use Rattle.transcript_law.specs.LinesTold.{OwnChange}
use Rattle.transcript_law.specs.Majorities.{IsHeldByMost}
use Rattle.transcript_law.specs.Transcripts.{first_doc}
use Rattle.transcript_law.proofs.rows.AnswerWrites.{act_is, no_made, refused_cas}
use Rattle.transcript_law.proofs.rows.Answering.{asked_so, byte_at, first_number, response_of, stored_bytes, stored_so}
use Rattle.transcript_law.proofs.rows.NextRows.{resolving_next}
use Rattle.transcript_law.proofs.rows.WaitingKeys.{nine_waits, waits}
use Rattle.transcript_law.specs.LinesTold.{LastLine}

-- ---- what a durable write that is told stored is

-- of what may be told of a durable write a commit alone has a CAS
pub only_stored : {bytes : List ℕ} {g f : Frame} {a b c d e n v : ℕ} {Why First : Status → Type 0} {Over Left Stored : Type 0} {served : Option (List OwnChange)} {role : Option (Option Role)} {made : List OwnChange} {write : Write} {wish : Durability}
    → (Over × IsBare g a b c) ⊎ (Left × (((st : Status) × IsBare g d (status_code st) e × Why st × First st) ⊎ Stored ⊎ IsUnsure n v served role made write wish f g)) → bytes ≡ spelling g → 0 < byte_at 23 bytes → Stored
only_stored fits s some = ⊎_elim (λ full. let n = refused_cas full.1 s in absurd (omega (arith, n, some))) (λ left. ⊎_elim (λ r. let n = refused_cas r.1 s in absurd (omega (arith, n, some))) (λ told. ⊎_elim (λ c. c) (λ unsure. let n = refused_cas unsure.said s in absurd (omega (arith, n, some))) told) left.1) fits

-- of one change that was told
module _ {n v : ℕ} {served : Option (List OwnChange)} {own : OwnChange} {settings : Settings} {write : Write} {wish : Durability} {f g : Frame} (c : IsCommitted n v served (own ∷ []) settings write wish f g) where
  one_is : c.one ≡ own
  one_is = ⊎_elim (λ e. e) (λ none. absurd none) c.told_before

  pub node_is : own.node ≡ n
  node_is = ap (λ (o : OwnChange). o.node) (sym one_is) ∙ c.here

  pub commit_is : own.change.act ≡ act.Commit c.prepared c.doc c.deleted
  commit_is = ap (λ (o : OwnChange). o.change.act) (sym one_is) ∙ c.commits

  pub commit_bytes : {bytes : List ℕ} → bytes ≡ spelling g → bytes ≡ spelling (response_of f.opcode 0 0 f.opaque (cas_of own.change.act) (seqno_part settings own.branch own.change.seq) [])
  commit_bytes {bytes} s =
      stored_bytes c.told s
      ∙ ap (λ x. spelling (response_of f.opcode 0 0 f.opaque x (seqno_part settings c.one.branch c.one.change.seq) [])) (sym (ap cas_of commit_is))
      ∙ ap (λ (o : OwnChange). spelling (response_of f.opcode 0 0 f.opaque (cas_of own.change.act) (seqno_part settings o.branch o.change.seq) [])) one_is

  -- it is of this write
  module _ {told : List OwnChange} (is : served ≡ Some told) where
    abbrev of_own : CommitsOf n v write wish.level told c.one
    of_own = c.own told is

    pub vb_is : own.vb ≡ v
    vb_is = ap (λ (o : OwnChange). o.vb) (sym one_is) ∙ of_own.at

    pub key_is : own.change.key ≡ write.key
    key_is = ap (λ (o : OwnChange). o.change.key) (sym one_is) ∙ of_own.key

    pub own_act : own.change.act ≡ act.Commit of_own.prepared (written_doc write of_own.cas of_own.rev) (is_delete write.op)
    own_act = ap (λ (o : OwnChange). o.change.act) (sym one_is) ∙ of_own.commits

    pub names_in : PreparesIn n v of_own.prepared write.key wish.level (written_doc write of_own.cas of_own.rev) (is_delete write.op) told
    names_in = of_own.names

-- a commit is no prepare
no_prepare : {n v number branch clock : ℕ} {name : List ℕ} {level : Level} {doc : Doc} {deleted : Bool} → PreparesIn n v number name level doc deleted (record { node = 0; vb = 0; branch = branch; change = committed_change; clock = clock } ∷ []) → ⊥
no_prepare {level = level} k = ⊎_elim (λ e. let z : committed_change.act ≡ act.Prepare level _ _ = ap (λ (o : OwnChange). o.change.act) (sym e) ∙ k.act in cc) (λ none. absurd none) k.among

-- the set of the key 9 was prepared so
prepared_so : PreparesIn 0 0 2 (9 ∷ []) Majority (first_doc 2 (6 ∷ [])) false (prepared_line ∷ [])
prepared_so = record { first = prepared_line; among = inl refl; node = refl; vb = refl; seq = refl; key = refl; act = refl }

the_same : (told : List OwnChange) → ◌≡◌ {A = Option (List OwnChange)} (Some (prepared_line ∷ [])) (Some told) → prepared_line ∷ [] ≡ told
the_same told e = cc

-- and committed so
abbrev pub nine_set : Write
nine_set = record { op = op.Set; key = 9 ∷ []; cas = 0; value = 6 ∷ []; flags = 0; expiry = 0; datatype = 0 }

pub own_commit : (told : List OwnChange) → ◌≡◌ {A = Option (List OwnChange)} (Some (prepared_line ∷ [])) (Some told) → CommitsOf 0 0 nine_set Majority told had_committed
own_commit told e = record { at = refl; key = refl; prepared = 2; cas = 2; rev = 1; commits = refl; names = subst (PreparesIn 0 0 2 (9 ∷ []) Majority (first_doc 2 (6 ∷ [])) false) (the_same told e) prepared_so }

-- ---- a commit that is made

-- the node is its chain, so the prepare is held by most
held_alone : IsHeldByMost ((serving pending blank_client).counts_at 0 0) ((serving pending blank_client).disk_at 0 0).saved 2 Majority
held_alone = record { members = []; differ = tt; each = tt; most = omega arith; saved_for = λ w. absurd w }

pub named_so : (number : ℕ) (doc : Doc) (deleted : Bool) → committed_change.act ≡ act.Commit number doc deleted → (waits.seq ≡ number) × (waits.doc ≡ doc) × (waits.deleted ≡ deleted)
named_so number doc deleted e = (cc, cc, cc)

pub makes_commit : (l : Option LastLine) (clients : ClientsKnown) (ticks : Option (ℕ × ℕ)) → LawfulChange (record (serving pending blank_client) { last = l; clients_at = clients; ticks = ticks }) 0 0 5 committed_change
makes_commit l clients ticks = record {
  active = refl;
  writer = record { made_or_took = refl; on_branch = refl };
  above_branch = omega arith;
  above_forks = (λ e. omega arith, tt);
  made = resolving_next pending committed_change waits refl nine_waits refl refl refl refl;
  fulfils = λ number doc deleted e. let t = named_so number doc deleted e in (waits, nine_waits, t.0, t.1, t.2);
  backed = λ number doc deleted e p there. let found : Some waits ≡ Some p = sym nine_waits ∙ there in let same : waits ≡ p = cc in subst (λ (q : Pend). IsHeldByMost ((serving pending blank_client).counts_at 0 0) ((serving pending blank_client).disk_at 0 0).saved q.seq q.level) same held_alone;
  asked = λ level doc deleted e. cc;
  aborts = λ prepared e. cc;
}

-- ---- transcripts

pub committed : LawfulAwaited pending (durably 1 9 6) (makes committed_change ∷ stores SET 2 [] ∷ [])
unfolding spelling frames_in first_frame frame_of read_of frame_row shape_fault request_of requirement_of
committed = (makes_commit _ _ _, (λ z. inl (record { question = _; next = refl; answer = reply_frame (stored_answer SET 9 2 []); spelled = refl; response = refl; opcode = refl; opaque = refl; calm = inr (inl ((_, _, refl, inl refl), (refl, tt))); fits = inr (first_number, inr (inl (record { one = had_committed; told_before = inl refl; here = refl; prepared = 2; doc = first_doc 2 (6 ∷ []); deleted = false; commits = refl; own = own_commit; told = stored_so SET 9 2 [] }))) }), tt))

pub uncommitted : LawfulTo durable (durably 1 9 6) (stores SET 2 [] ∷ []) → ⊥
unfolding spelling frames_in first_frame frame_of read_of frame_row shape_fault request_of requirement_of
uncommitted l = let (g, s, fits) = asked_so (l.0 refl) refl refl refl in let c = only_stored fits s (omega arith) in c.told_before

pub prepared : LawfulTo once (durably 1 9 6) (makes prepare_made ∷ stores SET 2 [] ∷ []) → ⊥
unfolding spelling frames_in first_frame frame_of read_of frame_row shape_fault request_of requirement_of
prepared l = let (g, s, fits) = asked_so (l.1.0 refl) refl refl refl in let c = only_stored fits s (omega arith) in let e : prepare_made.act ≡ act.Commit c.prepared c.doc c.deleted = commit_is c in cc

pub cas : LawfulAwaited pending (durably 1 9 6) (makes committed_change ∷ stores SET 3 [] ∷ []) → ⊥
unfolding spelling frames_in first_frame frame_of read_of frame_row shape_fault request_of requirement_of
cas l = let (g, s, fits) = asked_so (l.1.0 refl) refl refl refl in let c = only_stored fits s (omega arith) in let e : ◌≡◌ {A = ℕ} 3 2 = ap (byte_at 23) (commit_bytes c s) in omega (arith, e)

pub far : LawfulAwaited pending (durably 1 9 6) (makes_far committed_change ∷ stores SET 2 [] ∷ []) → ⊥
unfolding spelling frames_in first_frame frame_of read_of frame_row shape_fault request_of requirement_of
far l = let (g, s, fits) = asked_so (l.1.0 refl) refl refl refl in let c = only_stored fits s (omega arith) in let e : ◌≡◌ {A = ℕ} 1 0 = node_is c in omega (arith, e)

pub later : LawfulAwaited pending (durably 1 9 6 ++ durably 1 9 6) (makes committed_change ∷ stores SET 2 [] ∷ stores SET 2 [] ∷ []) → ⊥
unfolding spelling frames_in first_frame frame_of read_of frame_row shape_fault request_of requirement_of
later l = let (g, s, fits) = asked_so (l.1.1.0 refl) refl refl refl in let c = only_stored fits s (omega arith) in no_prepare (names_in c refl)

pub seqnos : LawfulAwaitedBy for_seqnos pending (durably 1 9 6) (makes committed_change ∷ stores SET 2 (seqno_extras 5 3) ∷ [])
unfolding spelling frames_in first_frame frame_of read_of frame_row shape_fault request_of requirement_of
seqnos = (makes_commit _ _ _, (λ z. inl (record { question = _; next = refl; answer = reply_frame (stored_answer SET 9 2 (seqno_extras 5 3)); spelled = refl; response = refl; opcode = refl; opaque = refl; calm = inr (inl ((_, _, refl, inl refl), (refl, tt))); fits = inr (first_number, inr (inl (record { one = had_committed; told_before = inl refl; here = refl; prepared = 2; doc = first_doc 2 (6 ∷ []); deleted = false; commits = refl; own = own_commit; told = stored_so SET 9 2 (seqno_extras 5 3) }))) }), tt))

pub untold : LawfulAwaitedBy for_seqnos pending (durably 1 9 6) (makes committed_change ∷ stores SET 2 [] ∷ []) → ⊥
unfolding spelling frames_in first_frame frame_of read_of frame_row shape_fault request_of requirement_of
untold l = let (g, s, fits) = asked_so (l.1.0 refl) refl refl refl in let c = only_stored fits s (omega arith) in let e : ◌≡◌ {A = ℕ} 0 16 = ap (byte_at 11) (commit_bytes c s) in omega (arith, e)

pub branch : LawfulAwaitedBy for_seqnos pending (durably 1 9 6) (makes committed_change ∷ stores SET 2 (seqno_extras 6 3) ∷ []) → ⊥
unfolding spelling frames_in first_frame frame_of read_of frame_row shape_fault request_of requirement_of
branch l = let (g, s, fits) = asked_so (l.1.0 refl) refl refl refl in let c = only_stored fits s (omega arith) in let e : ◌≡◌ {A = ℕ} 6 5 = ap (byte_at 31) (commit_bytes c s) in omega (arith, e)

pub seqno : LawfulAwaitedBy for_seqnos pending (durably 1 9 6) (makes committed_change ∷ stores SET 2 (seqno_extras 5 2) ∷ []) → ⊥
unfolding spelling frames_in first_frame frame_of read_of frame_row shape_fault request_of requirement_of
seqno l = let (g, s, fits) = asked_so (l.1.0 refl) refl refl refl in let c = only_stored fits s (omega arith) in let e : ◌≡◌ {A = ℕ} 2 3 = ap (byte_at 39) (commit_bytes c s) in omega (arith, e)

pub unasked : LawfulAwaited pending (durably 1 9 6) (makes committed_change ∷ stores SET 2 (seqno_extras 5 3) ∷ []) → ⊥
unfolding spelling frames_in first_frame frame_of read_of frame_row shape_fault request_of requirement_of
unasked l = let (g, s, fits) = asked_so (l.1.0 refl) refl refl refl in let c = only_stored fits s (omega arith) in let e : ◌≡◌ {A = ℕ} 16 0 = ap (byte_at 11) (commit_bytes c s) in omega (arith, e)

pub plain : LawfulTo pending (writes SET 0 9 6) (makes committed_change ∷ stores SET 2 [] ∷ []) → ⊥
unfolding spelling frames_in first_frame frame_of read_of frame_row shape_fault request_of requirement_of
plain l = let (g, s, fits) = asked_so (l.1.0 refl) refl refl refl in ⊎_elim (λ r. let e : ◌≡◌ {A = ℕ} 2 0 = refused_cas r.1 s in omega (arith, e)) (λ m. let e : committed_change.act ≡ act.Set _ = act_is m in cc) fits

pub plain_uncommitted : LawfulTo durable (writes SET 0 9 6) (stores SET 2 [] ∷ []) → ⊥
unfolding spelling frames_in first_frame frame_of read_of frame_row shape_fault request_of requirement_of
plain_uncommitted l = let (g, s, fits) = asked_so (l.0 refl) refl refl refl in ⊎_elim (λ r. let e : ◌≡◌ {A = ℕ} 2 0 = refused_cas r.1 s in omega (arith, e)) (λ m. no_made m) fits

pub other_key : LawfulAwaited pending (durably 1 7 6) (makes committed_change ∷ stores SET 2 [] ∷ []) → ⊥
unfolding spelling frames_in first_frame frame_of read_of frame_row shape_fault request_of requirement_of
other_key l = let (g, s, fits) = asked_so (l.1.0 refl) refl refl refl in let c = only_stored fits s (omega arith) in let e : ◌≡◌ {A = ℕ} 9 7 = ap (byte_at 0) (key_is c refl) in omega (arith, e)

pub other_vb : LawfulAwaited pending (durably 1 9 6) (makes_elsewhere committed_change ∷ stores SET 2 [] ∷ []) → ⊥
unfolding spelling frames_in first_frame frame_of read_of frame_row shape_fault request_of requirement_of
other_vb l = let (g, s, fits) = asked_so (l.1.0 refl) refl refl refl in let c = only_stored fits s (omega arith) in let e : ◌≡◌ {A = ℕ} 1 0 = vb_is c refl in omega (arith, e)

-- a commit of this document is none of a write of another one
doc_of : (number other : ℕ) (doc written : Doc) (a b : Bool) → act.Commit number doc a ≡ act.Commit other written b → (doc ≡ written) × (a ≡ b)
doc_of number other doc written a b e = (cc, cc)

pub other_value : LawfulAwaited pending (durably 1 9 7) (makes committed_change ∷ stores SET 2 [] ∷ []) → ⊥
unfolding spelling frames_in first_frame frame_of read_of frame_row shape_fault request_of requirement_of
other_value l =
    let (g, s, fits) = asked_so (l.1.0 refl) refl refl refl in let c = only_stored fits s (omega arith) in
    let docs = doc_of _ _ _ _ _ _ (own_act c refl) in
    let e : ◌≡◌ {A = ℕ} 6 7 = ap (λ (d : Doc). byte_at 0 d.value) docs.0 in omega (arith, e)

pub removal : LawfulAwaited pending (durably_removes 1 9) (makes committed_change ∷ stores DELETE 2 [] ∷ []) → ⊥
unfolding spelling frames_in first_frame frame_of read_of frame_row shape_fault request_of requirement_of
removal l = let (g, s, fits) = asked_so (l.1.0 refl) refl refl refl in let c = only_stored fits s (omega arith) in let docs = doc_of _ _ _ _ _ _ (own_act c refl) in let e : false ≡ true = docs.1 in cc

-- the level of that prepare
pub level_of : {n v number : ℕ} {name : List ℕ} {level : Level} {doc : Doc} {deleted : Bool} → PreparesIn n v number name level doc deleted (prepared_line ∷ []) → Majority ≡ level
level_of {level = level} k = by (⊎_elim (λ e. e) (λ none. absurd none) k.among)
  where
    by : k.first ≡ prepared_line → Majority ≡ level
    by e = let z : prepare_made.act ≡ act.Prepare level _ _ = ap (λ (o : OwnChange). o.change.act) (sym e) ∙ k.act in cc

pub other_level : LawfulAwaited pending (durably 2 9 6) (makes committed_change ∷ stores SET 2 [] ∷ []) → ⊥
unfolding spelling frames_in first_frame frame_of read_of frame_row shape_fault request_of requirement_of
other_level l = let (g, s, fits) = asked_so (l.1.0 refl) refl refl refl in let c = only_stored fits s (omega arith) in let e : Majority ≡ MajorityPersistActive = level_of (names_in c refl) in cc

pub other_prepare : LawfulTo pending (durably 1 9 6) (makes committed_change ∷ stores SET 2 [] ∷ []) → ⊥
unfolding spelling frames_in first_frame frame_of read_of frame_row shape_fault request_of requirement_of
other_prepare l = let (g, s, fits) = asked_so (l.1.0 refl) refl refl refl in let c = only_stored fits s (omega arith) in no_prepare (names_in c refl)
