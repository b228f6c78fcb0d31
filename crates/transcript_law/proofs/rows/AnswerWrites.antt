-- writes that are told made, judged by hand
use Rattle.std.proofs.Common.{Bool, List, [], ap, arith, inl, inr, refl, sym, ℕ, ⊎_elim, ◌++◌, ◌∙◌, ◌∷◌, ◌≡◌}
use Rattle.std.specs.FinMap.{get}
use Rattle.std.specs.Prelude.{Option, Some, None, option_map}
unfoldable use Rattle.mcbp_dcp.specs.Messages.{read_of}
unfoldable use Rattle.mcbp_dcp.specs.Rows.{frame_row}
unfoldable use Rattle.mcbp_dcp.specs.Shapes.{shape_fault}
unfoldable use Rattle.mcbp_frame.specs.Cutting.{frames_in}
unfoldable use Rattle.mcbp_frame.specs.Frames.{first_frame, frame_of}
unfoldable use Rattle.mcbp_frame.specs.Spelling.{spelling}
unfoldable use Rattle.mcbp_kv.specs.Framing.{requirement_of}
unfoldable use Rattle.mcbp_kv.specs.Requests.{request_of}
use Rattle.client_session.specs.Rows.{seqno_part}
use Rattle.client_session.specs.declared.session.Settings.{Settings}
use Rattle.mcbp_frame.specs.declared.frame.Frame.{Frame}
use Rattle.mcbp_kv.specs.Answers.{IsBare, seqno_extras, stored_answer}
use Rattle.mcbp_kv.specs.Replies.{reply_frame}
use Rattle.mcbp_kv.specs.declared.opcodes.TheConstants.{ADD, DELETE, REPLACE, SET}
use Rattle.vb_calls.specs.Following.{cas_of}
use Rattle.vb_calls.specs.Writes.{act_of, doc_refusal, written_doc}
use Rattle.vb_types.specs.Images.{image_of}
use Rattle.vb_types.specs.declared.change.Act.{Act}
use Rattle.vb_types.specs.declared.change.Act.TheVariants as act
use Rattle.vb_types.specs.declared.change.Change.{Change}
use Rattle.vb_types.specs.declared.change.Level.{Level}
use Rattle.vb_types.specs.declared.change.Pend.{Pend}
use Rattle.vb_types.specs.declared.doc.Doc.{Doc}
use Rattle.vb_types.specs.declared.status.Status.TheVariants as status
use Rattle.vb_types.specs.declared.write.Op.{Op}
use Rattle.vb_types.specs.declared.write.Op.TheVariants as op
use Rattle.vb_types.specs.declared.write.Write.{Write}
use Rattle.transcript_law.specs.AnswerRows.{LawfulBy, LawfulTo, for_seqnos, makes, makes_elsewhere, makes_far, newer, newer_doc, once, over_prepare, removal, removes, stores, writes}
use Rattle.transcript_law.specs.ClientAskRows.{serving}
use Rattle.transcript_law.specs.ClientStreamRows.{pending, prepared as prepare_made}
use Rattle.transcript_law.specs.ClientStreams.{ClientsKnown, blank_client}
use Rattle.transcript_law.specs.Followers.{next_change}
use Rattle.transcript_law.specs.LawfulAnswers.{IsMade}
use Rattle.transcript_law.specs.Lawfulness.{LawfulChange}
use Rattle.transcript_law.specs.LinesTold.{OwnChange}
use Rattle.transcript_law.specs.OwnChanges.{IsNextChange}
use Rattle.transcript_law.specs.Transcripts.{first_doc, one_change}
use Rattle.transcript_law.proofs.rows.Answering.{asked_so, bare_bytes, byte_at, first_byte, response_of, stored_bytes, stored_so}
use Rattle.transcript_law.proofs.rows.NextRows.{first_next, nine_none, none_stored, second_next, seven_next, seven_there}
use Rattle.transcript_law.proofs.rows.WaitingKeys.{nine_waits, waits}
use Rattle.transcript_law.specs.LinesTold.{LastLine}

-- ---- what a write that was made is

-- no change was told
pub no_made : {n v : ℕ} {held : List Change} {settings : Settings} {write : Write} {f g : Frame} → IsMade n v held [] settings write f g → ⊥
no_made m = let e : [] ≡ record { node = _; vb = _; branch = m.branch; change = m.change; clock = m.clock } ∷ m.older = m.last in cc

-- what stands before the last change
before_last : List Change → List Change
before_last [] = []
before_last (c ∷ []) = []
before_last (c ∷ d ∷ cs) = c ∷ before_last (d ∷ cs)

before_last_is : (cs : List Change) (c : Change) → before_last (cs ++ c ∷ []) ≡ cs
unfolding before_last
before_last_is [] c = refl
before_last_is (d ∷ []) c = refl
before_last_is (d ∷ e ∷ cs) c = ap (λ xs. d ∷ xs) (before_last_is (e ∷ cs) c)

-- the CAS that a write makes its document with
cas_act : (o : Op) (write : Write) (cas rev : ℕ) → cas_of (act_of o (written_doc write cas rev)) ≡ cas
cas_act op.Set write cas rev = refl
cas_act op.Add write cas rev = refl
cas_act op.Replace write cas rev = refl
cas_act op.Delete write cas rev = refl

-- the last change that was told
module _ {n v : ℕ} {held : List Change} {own : OwnChange} {older : List OwnChange} {settings : Settings} {write : Write} {f g : Frame} (m : IsMade n v held (own ∷ older) settings write f g) where
  abbrev its_own : OwnChange
  its_own = record { node = n; vb = v; branch = m.branch; change = m.change; clock = m.clock }

  own_is : own ≡ its_own
  own_is = let e : own ∷ older ≡ its_own ∷ m.older = m.last in cc

  pub node_is : own.node ≡ n
  node_is = ap (λ (o : OwnChange). o.node) own_is

  pub vb_is : own.vb ≡ v
  vb_is = ap (λ (o : OwnChange). o.vb) own_is

  change_is : own.change ≡ m.change
  change_is = ap (λ (o : OwnChange). o.change) own_is

  pub key_is : own.change.key ≡ write.key
  key_is = ap (λ (c : Change). c.key) change_is ∙ m.key

  pub act_is : own.change.act ≡ act_of write.op (written_doc write m.cas m.rev)
  act_is = ap (λ (c : Change). c.act) change_is ∙ m.act

  cas_is : m.cas ≡ cas_of own.change.act
  cas_is = sym (cas_act write.op write m.cas m.rev) ∙ ap cas_of (sym act_is)

  pub fits_is : (before : List Change) → held ≡ before ++ own.change ∷ [] → doc_refusal write.op write.cas (get (image_of before).docs write.key) ≡ None
  fits_is before is =
      let same : m.before ≡ before = sym (before_last_is m.before m.change) ∙ ap before_last (sym m.behind ∙ is) ∙ before_last_is before own.change in
      ap (λ b. doc_refusal write.op write.cas (get (image_of b).docs write.key)) (sym same) ∙ m.fits

  pub told_is : {bytes : List ℕ} → bytes ≡ spelling g → bytes ≡ spelling (response_of f.opcode 0 0 f.opaque (cas_of own.change.act) (seqno_part settings own.branch own.change.seq) [])
  told_is {bytes} s =
      stored_bytes m.told s
      ∙ ap (λ c. spelling (response_of f.opcode 0 0 f.opaque c (seqno_part settings m.branch m.change.seq) [])) cas_is
      ∙ ap (λ (o : OwnChange). spelling (response_of f.opcode 0 0 f.opaque (cas_of own.change.act) (seqno_part settings o.branch o.change.seq) [])) (sym own_is)

-- one that is refused has no CAS
pub refused_cas : {bytes : List ℕ} {g : Frame} {code said opaque : ℕ} → IsBare g code said opaque → bytes ≡ spelling g → byte_at 23 bytes ≡ 0
unfolding spelling
refused_cas b s = ap (byte_at 23) (bare_bytes b s)

-- the value of a document that is put
value_of : Act → List ℕ
value_of (act.Set doc) = doc.value
value_of other = []

-- ---- changes that are made

pub makes_one : (l : Option LastLine) (clients : ClientsKnown) → LawfulChange (record (serving [] blank_client) { last = l; clients_at = clients }) 0 0 5 one_change
makes_one l clients = record {
  active = refl;
  writer = record { made_or_took = refl; on_branch = refl };
  above_branch = omega arith;
  above_forks = (λ e. omega arith, tt);
  made = first_next;
  fulfils = λ prepared doc deleted e. cc;
  backed = λ prepared doc deleted e. cc;
  asked = λ level doc deleted e. cc;
  aborts = λ prepared e. cc;
}

makes_more : (clients : ClientsKnown) (a : Act) → ((prepared : ℕ) (doc : Doc) (deleted : Bool) → a ≡ act.Commit prepared doc deleted → ⊥) → ((level : Level) (doc : Doc) (deleted : Bool) → a ≡ act.Prepare level doc deleted → ⊥) → ((prepared : ℕ) → a ≡ act.Abort prepared → ⊥) → IsNextChange once (record { seq = 2; key = 7 ∷ []; act = a }) → LawfulChange (record (serving once blank_client) { clients_at = clients }) 0 0 5 (record { seq = 2; key = 7 ∷ []; act = a })
makes_more clients a none plain stays next = record {
  active = refl;
  writer = record { made_or_took = refl; on_branch = refl };
  above_branch = omega arith;
  above_forks = (λ e. omega arith, tt);
  made = next;
  fulfils = λ prepared doc deleted e. absurd (none prepared doc deleted e);
  backed = λ prepared doc deleted e. absurd (none prepared doc deleted e);
  asked = λ level doc deleted e. absurd (plain level doc deleted e);
  aborts = λ prepared e. absurd (stays prepared e);
}

makes_newer : (clients : ClientsKnown) → LawfulChange (record (serving once blank_client) { clients_at = clients }) 0 0 5 newer
makes_newer clients = makes_more clients (act.Set newer_doc) (λ prepared doc deleted e. cc) (λ level doc deleted e. cc) (λ prepared e. cc) (seven_next (act.Set newer_doc) refl refl refl)

makes_removal : (clients : ClientsKnown) → LawfulChange (record (serving once blank_client) { clients_at = clients }) 0 0 5 removal
makes_removal clients = makes_more clients (act.Remove 2 2) (λ prepared doc deleted e. cc) (λ level doc deleted e. cc) (λ prepared e. cc) (seven_next (act.Remove 2 2) refl refl refl)

-- ---- transcripts

pub made : LawfulTo [] (writes SET 0 7 8) (makes one_change ∷ stores SET 1 [] ∷ [])
unfolding spelling frames_in first_frame frame_of read_of frame_row shape_fault request_of requirement_of
made = (makes_one _ _, (λ z. inl (record { question = _; next = refl; answer = reply_frame (stored_answer SET 9 1 []); spelled = refl; response = refl; opcode = refl; opaque = refl; calm = inl (_, refl, refl); fits = inr (record { branch = 5; change = one_change; clock = 0; older = []; alone = tt; last = refl; key = refl; cas = 1; rev = 1; act = refl; before = []; behind = refl; fits = ap (doc_refusal op.Set 0) (none_stored (7 ∷ [])); told = stored_so SET 9 1 [] }) }), tt))

pub unmade : LawfulTo [] (writes SET 0 7 8) (stores SET 1 [] ∷ []) → ⊥
unfolding spelling frames_in first_frame frame_of read_of frame_row shape_fault request_of requirement_of
unmade l = let (g, s, fits) = asked_so (l.0 refl) refl refl refl in ⊎_elim (λ r. let e : ◌≡◌ {A = ℕ} 1 0 = refused_cas r.1 s in omega (arith, e)) (λ m. no_made m) fits

pub cas : LawfulTo [] (writes SET 0 7 8) (makes one_change ∷ stores SET 2 [] ∷ []) → ⊥
unfolding spelling frames_in first_frame frame_of read_of frame_row shape_fault request_of requirement_of
cas l = let (g, s, fits) = asked_so (l.1.0 refl) refl refl refl in ⊎_elim (λ r. let e : ◌≡◌ {A = ℕ} 2 0 = refused_cas r.1 s in omega (arith, e)) (λ m. let e : ◌≡◌ {A = ℕ} 2 1 = ap (byte_at 23) (told_is m s) in omega (arith, e)) fits

pub key : LawfulTo [] (writes SET 0 9 8) (makes one_change ∷ stores SET 1 [] ∷ []) → ⊥
unfolding spelling frames_in first_frame frame_of read_of frame_row shape_fault request_of requirement_of
key l = let (g, s, fits) = asked_so (l.1.0 refl) refl refl refl in ⊎_elim (λ r. let e : ◌≡◌ {A = ℕ} 1 0 = refused_cas r.1 s in omega (arith, e)) (λ m. let e : ◌≡◌ {A = ℕ} 7 9 = ap first_byte (key_is m) in omega (arith, e)) fits

pub value : LawfulTo [] (writes SET 0 7 9) (makes one_change ∷ stores SET 1 [] ∷ []) → ⊥
unfolding spelling frames_in first_frame frame_of read_of frame_row shape_fault request_of requirement_of value_of
value l = let (g, s, fits) = asked_so (l.1.0 refl) refl refl refl in ⊎_elim (λ r. let e : ◌≡◌ {A = ℕ} 1 0 = refused_cas r.1 s in omega (arith, e)) (λ m. let e : ◌≡◌ {A = ℕ} 8 9 = ap first_byte (ap value_of (act_is m)) in omega (arith, e)) fits

pub elsewhere : LawfulTo [] (writes SET 0 7 8) (makes_elsewhere one_change ∷ stores SET 1 [] ∷ []) → ⊥
unfolding spelling frames_in first_frame frame_of read_of frame_row shape_fault request_of requirement_of
elsewhere l = let (g, s, fits) = asked_so (l.1.0 refl) refl refl refl in ⊎_elim (λ r. let e : ◌≡◌ {A = ℕ} 1 0 = refused_cas r.1 s in omega (arith, e)) (λ m. let e : ◌≡◌ {A = ℕ} 1 0 = vb_is m in omega (arith, e)) fits

pub far : LawfulTo [] (writes SET 0 7 8) (makes_far one_change ∷ stores SET 1 [] ∷ []) → ⊥
unfolding spelling frames_in first_frame frame_of read_of frame_row shape_fault request_of requirement_of
far l = let (g, s, fits) = asked_so (l.1.0 refl) refl refl refl in ⊎_elim (λ r. let e : ◌≡◌ {A = ℕ} 1 0 = refused_cas r.1 s in omega (arith, e)) (λ m. let e : ◌≡◌ {A = ℕ} 1 0 = node_is m in omega (arith, e)) fits

pub twice : LawfulTo [] (writes SET 0 7 8 ++ writes SET 0 7 8) (makes one_change ∷ stores SET 1 [] ∷ stores SET 1 [] ∷ []) → ⊥
unfolding spelling frames_in first_frame frame_of read_of frame_row shape_fault request_of requirement_of
twice l = let (g, s, fits) = asked_so (l.1.1.0 refl) refl refl refl in ⊎_elim (λ r. let e : ◌≡◌ {A = ℕ} 1 0 = refused_cas r.1 s in omega (arith, e)) (λ m. no_made m) fits

pub each : LawfulTo [] (writes SET 0 7 8 ++ writes SET 0 9 6) (makes one_change ∷ stores SET 1 [] ∷ makes next_change ∷ stores SET 2 [] ∷ [])
unfolding spelling frames_in first_frame frame_of read_of frame_row shape_fault request_of requirement_of
each = (makes_one _ _, (λ z. inl (record { question = _; next = refl; answer = reply_frame (stored_answer SET 9 1 []); spelled = refl; response = refl; opcode = refl; opaque = refl; calm = inl (_, refl, refl); fits = inr (record { branch = 5; change = one_change; clock = 0; older = []; alone = tt; last = refl; key = refl; cas = 1; rev = 1; act = refl; before = []; behind = refl; fits = ap (doc_refusal op.Set 0) (none_stored (7 ∷ [])); told = stored_so SET 9 1 [] }) }), (record { active = refl; writer = record { made_or_took = refl; on_branch = refl }; above_branch = omega arith; above_forks = (λ e. omega arith, tt); made = second_next; fulfils = λ prepared doc deleted e. cc; backed = λ prepared doc deleted e. cc; asked = λ level doc deleted e. cc; aborts = λ prepared e. cc }, (λ z. inl (record { question = _; next = refl; answer = reply_frame (stored_answer SET 9 2 []); spelled = refl; response = refl; opcode = refl; opaque = refl; calm = inl (_, refl, refl); fits = inr (record { branch = 5; change = next_change; clock = 0; older = []; alone = tt; last = refl; key = refl; cas = 2; rev = 1; act = refl; before = once; behind = refl; fits = ap (doc_refusal op.Set 0) (nine_none (first_doc 1 (8 ∷ []))); told = stored_so SET 9 2 [] }) }), tt))))

pub late : LawfulTo [] (writes SET 0 7 8 ++ writes SET 0 9 6) (makes one_change ∷ makes next_change ∷ stores SET 1 [] ∷ []) → ⊥
unfolding spelling frames_in first_frame frame_of read_of frame_row shape_fault request_of requirement_of
late l = let (g, s, fits) = asked_so (l.1.1.0 refl) refl refl refl in ⊎_elim (λ r. let e : ◌≡◌ {A = ℕ} 1 0 = refused_cas r.1 s in omega (arith, e)) (λ m. let e : ◌≡◌ {A = ℕ} 9 7 = ap first_byte (key_is m) in omega (arith, e)) fits

pub seqnos : LawfulBy for_seqnos [] (writes SET 0 7 8) (makes one_change ∷ stores SET 1 (seqno_extras 5 1) ∷ [])
unfolding spelling frames_in first_frame frame_of read_of frame_row shape_fault request_of requirement_of
seqnos = (makes_one _ _, (λ z. inl (record { question = _; next = refl; answer = reply_frame (stored_answer SET 9 1 (seqno_extras 5 1)); spelled = refl; response = refl; opcode = refl; opaque = refl; calm = inl (_, refl, refl); fits = inr (record { branch = 5; change = one_change; clock = 0; older = []; alone = tt; last = refl; key = refl; cas = 1; rev = 1; act = refl; before = []; behind = refl; fits = ap (doc_refusal op.Set 0) (none_stored (7 ∷ [])); told = stored_so SET 9 1 (seqno_extras 5 1) }) }), tt))

pub untold : LawfulBy for_seqnos [] (writes SET 0 7 8) (makes one_change ∷ stores SET 1 [] ∷ []) → ⊥
unfolding spelling frames_in first_frame frame_of read_of frame_row shape_fault request_of requirement_of
untold l = let (g, s, fits) = asked_so (l.1.0 refl) refl refl refl in ⊎_elim (λ r. let e : ◌≡◌ {A = ℕ} 1 0 = refused_cas r.1 s in omega (arith, e)) (λ m. let e : ◌≡◌ {A = ℕ} 0 16 = ap (byte_at 11) (told_is m s) in omega (arith, e)) fits

pub branch : LawfulBy for_seqnos [] (writes SET 0 7 8) (makes one_change ∷ stores SET 1 (seqno_extras 6 1) ∷ []) → ⊥
unfolding spelling frames_in first_frame frame_of read_of frame_row shape_fault request_of requirement_of
branch l = let (g, s, fits) = asked_so (l.1.0 refl) refl refl refl in ⊎_elim (λ r. let e : ◌≡◌ {A = ℕ} 1 0 = refused_cas r.1 s in omega (arith, e)) (λ m. let e : ◌≡◌ {A = ℕ} 6 5 = ap (byte_at 31) (told_is m s) in omega (arith, e)) fits

pub seqno : LawfulBy for_seqnos [] (writes SET 0 7 8) (makes one_change ∷ stores SET 1 (seqno_extras 5 2) ∷ []) → ⊥
unfolding spelling frames_in first_frame frame_of read_of frame_row shape_fault request_of requirement_of
seqno l = let (g, s, fits) = asked_so (l.1.0 refl) refl refl refl in ⊎_elim (λ r. let e : ◌≡◌ {A = ℕ} 1 0 = refused_cas r.1 s in omega (arith, e)) (λ m. let e : ◌≡◌ {A = ℕ} 2 1 = ap (byte_at 39) (told_is m s) in omega (arith, e)) fits

pub unasked : LawfulTo [] (writes SET 0 7 8) (makes one_change ∷ stores SET 1 (seqno_extras 5 1) ∷ []) → ⊥
unfolding spelling frames_in first_frame frame_of read_of frame_row shape_fault request_of requirement_of
unasked l = let (g, s, fits) = asked_so (l.1.0 refl) refl refl refl in ⊎_elim (λ r. let e : ◌≡◌ {A = ℕ} 1 0 = refused_cas r.1 s in omega (arith, e)) (λ m. let e : ◌≡◌ {A = ℕ} 16 0 = ap (byte_at 11) (told_is m s) in omega (arith, e)) fits

pub fits : LawfulTo once (writes SET 1 7 4) (makes newer ∷ stores SET 2 [] ∷ [])
unfolding spelling frames_in first_frame frame_of read_of frame_row shape_fault request_of requirement_of
fits = (makes_newer _, (λ z. inl (record { question = _; next = refl; answer = reply_frame (stored_answer SET 9 2 []); spelled = refl; response = refl; opcode = refl; opaque = refl; calm = inl (_, refl, refl); fits = inr (record { branch = 5; change = newer; clock = 0; older = []; alone = tt; last = refl; key = refl; cas = 2; rev = 2; act = refl; before = once; behind = refl; fits = ap (doc_refusal op.Set 1) (seven_there (first_doc 1 (8 ∷ []))); told = stored_so SET 9 2 [] }) }), tt))

pub unfit : LawfulTo once (writes SET 3 7 4) (makes newer ∷ stores SET 2 [] ∷ []) → ⊥
unfolding spelling frames_in first_frame frame_of read_of frame_row shape_fault request_of requirement_of
unfit l = let (g, s, fits) = asked_so (l.1.0 refl) refl refl refl in ⊎_elim (λ r. let e : ◌≡◌ {A = ℕ} 2 0 = refused_cas r.1 s in omega (arith, e)) (λ m. let e : Some status.KeyEexists ≡ None = ap (doc_refusal op.Set 3) (sym (seven_there (first_doc 1 (8 ∷ [])))) ∙ fits_is m once refl in cc) fits

pub adds : LawfulTo [] (writes ADD 0 7 8) (makes one_change ∷ stores ADD 1 [] ∷ [])
unfolding spelling frames_in first_frame frame_of read_of frame_row shape_fault request_of requirement_of
adds = (makes_one _ _, (λ z. inl (record { question = _; next = refl; answer = reply_frame (stored_answer ADD 9 1 []); spelled = refl; response = refl; opcode = refl; opaque = refl; calm = inl (_, refl, refl); fits = inr (record { branch = 5; change = one_change; clock = 0; older = []; alone = tt; last = refl; key = refl; cas = 1; rev = 1; act = refl; before = []; behind = refl; fits = ap (doc_refusal op.Add 0) (none_stored (7 ∷ [])); told = stored_so ADD 9 1 [] }) }), tt))

pub adds_again : LawfulTo once (writes ADD 0 7 4) (makes newer ∷ stores ADD 2 [] ∷ []) → ⊥
unfolding spelling frames_in first_frame frame_of read_of frame_row shape_fault request_of requirement_of
adds_again l = let (g, s, fits) = asked_so (l.1.0 refl) refl refl refl in ⊎_elim (λ r. let e : ◌≡◌ {A = ℕ} 2 0 = refused_cas r.1 s in omega (arith, e)) (λ m. let e : Some status.KeyEexists ≡ None = ap (doc_refusal op.Add 0) (sym (seven_there (first_doc 1 (8 ∷ [])))) ∙ fits_is m once refl in cc) fits

pub replaces : LawfulTo once (writes REPLACE 0 7 4) (makes newer ∷ stores REPLACE 2 [] ∷ [])
unfolding spelling frames_in first_frame frame_of read_of frame_row shape_fault request_of requirement_of
replaces = (makes_newer _, (λ z. inl (record { question = _; next = refl; answer = reply_frame (stored_answer REPLACE 9 2 []); spelled = refl; response = refl; opcode = refl; opaque = refl; calm = inl (_, refl, refl); fits = inr (record { branch = 5; change = newer; clock = 0; older = []; alone = tt; last = refl; key = refl; cas = 2; rev = 2; act = refl; before = once; behind = refl; fits = ap (doc_refusal op.Replace 0) (seven_there (first_doc 1 (8 ∷ []))); told = stored_so REPLACE 9 2 [] }) }), tt))

pub replaces_none : LawfulTo [] (writes REPLACE 0 7 8) (makes one_change ∷ stores REPLACE 1 [] ∷ []) → ⊥
unfolding spelling frames_in first_frame frame_of read_of frame_row shape_fault request_of requirement_of
replaces_none l = let (g, s, fits) = asked_so (l.1.0 refl) refl refl refl in ⊎_elim (λ r. let e : ◌≡◌ {A = ℕ} 1 0 = refused_cas r.1 s in omega (arith, e)) (λ m. let e : Some status.KeyEnoent ≡ None = ap (doc_refusal op.Replace 0) (sym (none_stored (7 ∷ []))) ∙ fits_is m [] refl in cc) fits

pub removed : LawfulTo once (removes 7) (makes removal ∷ stores DELETE 2 [] ∷ [])
unfolding spelling frames_in first_frame frame_of read_of frame_row shape_fault request_of requirement_of
removed = (makes_removal _, (λ z. inl (record { question = _; next = refl; answer = reply_frame (stored_answer DELETE 9 2 []); spelled = refl; response = refl; opcode = refl; opaque = refl; calm = inl (_, refl, refl); fits = inr (record { branch = 5; change = removal; clock = 0; older = []; alone = tt; last = refl; key = refl; cas = 2; rev = 2; act = refl; before = once; behind = refl; fits = ap (doc_refusal op.Delete 0) (seven_there (first_doc 1 (8 ∷ []))); told = stored_so DELETE 9 2 [] }) }), tt))

pub prepared_only : LawfulTo once (writes SET 0 9 6) (makes prepare_made ∷ stores SET 2 [] ∷ []) → ⊥
unfolding spelling frames_in first_frame frame_of read_of frame_row shape_fault request_of requirement_of
prepared_only l = let (g, s, fits) = asked_so (l.1.0 refl) refl refl refl in ⊎_elim (λ r. let e : ◌≡◌ {A = ℕ} 2 0 = refused_cas r.1 s in omega (arith, e)) (λ m. let e : prepare_made.act ≡ act.Set _ = act_is m in cc) fits

pub locked : LawfulTo pending (writes SET 0 9 4) (makes over_prepare ∷ stores SET 3 [] ∷ []) → ⊥
unfolding spelling frames_in first_frame frame_of read_of frame_row shape_fault request_of requirement_of
locked l = let e : None ≡ option_map (λ (p : Pend). p.seq) (Some waits) = l.0.made.waits ∙ ap (option_map (λ (p : Pend). p.seq)) nine_waits in cc
