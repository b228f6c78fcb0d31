-- answers to GET, judged by hand
use Rattle.std.proofs.Common.{Bool, List, [], ap, arith, inr, refl, subst, sym, true, false, ℕ, ⊎_elim, ◌∙◌, ◌∷◌, ◌≡◌}
use Rattle.std.specs.FinMap.{get}
use Rattle.std.specs.Prelude.{Ok, Option, Result, Some, None}
unfoldable use Rattle.mcbp_dcp.specs.Messages.{read_of}
unfoldable use Rattle.mcbp_dcp.specs.Rows.{frame_row}
unfoldable use Rattle.mcbp_dcp.specs.Shapes.{shape_fault}
unfoldable use Rattle.mcbp_frame.specs.Cutting.{frames_in}
unfoldable use Rattle.mcbp_frame.specs.Frames.{first_frame, frame_of}
unfoldable use Rattle.mcbp_frame.specs.Spelling.{spelling}
unfoldable use Rattle.mcbp_kv.specs.Framing.{requirement_of}
unfoldable use Rattle.mcbp_kv.specs.Requests.{request_of}
use Rattle.mcbp_frame.specs.declared.frame.Frame.{Frame}
use Rattle.mcbp_kv.specs.Answers.{IsFound, bare_answer, found_answer}
use Rattle.mcbp_kv.specs.Replies.{reply_frame}
use Rattle.mcbp_kv.specs.declared.opcodes.TheConstants.{GET}
use Rattle.vb_types.specs.Images.{Picture, image_of}
use Rattle.vb_types.specs.declared.doc.Doc.{Doc}
use Rattle.vb_types.specs.declared.role.Role.{Role}
use Rattle.vb_types.specs.declared.role.Role.TheVariants.{Active}
use Rattle.vb_types.specs.declared.status.Status.{Status}
use Rattle.vb_types.specs.declared.status.Status.TheVariants as status
use Rattle.mcbp_kv.specs.declared.request.KvRequest.{KvRequest}
use Rattle.mcbp_kv.specs.declared.request.KvRequest.TheVariants as request
use Rattle.vb_types.proofs.Laws.{get-insert_same}
use Rattle.transcript_law.specs.AnswerRows.{LawfulAway, LawfulBy, LawfulTo, LawfulUnmade, finds, finds_raw, for_json, gets, json_doc, json_once, makes, newer, newer_doc, once, says}
use Rattle.transcript_law.specs.ClientStreamRows.{pending}
use Rattle.transcript_law.specs.LawfulAnswers.{FitsGet, IsLeftUndone, IsStatus}
use Rattle.transcript_law.specs.LawfulClients.{IsActive}
use Rattle.transcript_law.specs.Transcripts.{first_doc, one_change}
use Rattle.transcript_law.proofs.rows.Answering.{asked_calm, asked_so, bare_bytes, bare_so, byte_at, found_bytes, found_so, kv_answer}
use Rattle.transcript_law.proofs.rows.ClientStreamVerdicts.{no_active}
use Rattle.transcript_law.proofs.rows.NextRows.{nine_none, seven_pending, seven_there}
use Rattle.transcript_law.proofs.rows.WaitingKeys.{nine_own, twice_pending}

-- ---- what fits a GET

-- no prepare waits, so none was left
pub free : (risen : ℕ) (image : Picture) (key : List ℕ) → get image.pending key ≡ None → IsLeftUndone risen image key → ⊥
free risen image key none left = let e : None ≡ Some left.0 = sym none ∙ left.1 in cc

module _ {role : Option (Option Role)} {risen : ℕ} {image : Picture} {json : Bool} {key : List ℕ} {f g : Frame} where
  -- a document that is there, and none, where no prepare was left
  pub get_found : (doc : Doc) → IsActive role → (IsLeftUndone risen image key → ⊥) → get image.docs key ≡ Some doc → IsFound json g f.opaque doc → FitsGet role risen image json key f g
  get_found doc active unleft there is = record {
    away = λ off. absurd (off active);
    left = λ a l. absurd (unleft l);
    found = λ a u d at. let both : Some doc ≡ Some d = sym there ∙ at in let same : doc ≡ d = cc in subst (IsFound json g f.opaque) same is;
    none = λ a u e. let both : Some doc ≡ None = sym there ∙ e in cc;
  }

  pub get_none : IsActive role → (IsLeftUndone risen image key → ⊥) → get image.docs key ≡ None → IsStatus f g status.KeyEnoent → FitsGet role risen image json key f g
  get_none active unleft there is = record {
    away = λ off. absurd (off active);
    left = λ a l. absurd (unleft l);
    found = λ a u d at. let both : None ≡ Some d = sym there ∙ at in cc;
    none = λ a u e. is;
  }

  -- a prepare that was left
  pub get_left : IsActive role → IsLeftUndone risen image key → IsStatus f g status.SyncWriteReCommitInProgress → FitsGet role risen image json key f g
  get_left active there is = record { away = λ off. absurd (off active); left = λ a l. is; found = λ a unleft d at. absurd (unleft there); none = λ a unleft e. absurd (unleft there) }

  -- a vBucket that is not active
  pub get_away : (IsActive role → ⊥) → IsStatus f g status.NotMyVbucket → FitsGet role risen image json key f g
  get_away off is = record { away = λ o. is; left = λ a l. absurd (off a); found = λ a u d at. absurd (off a); none = λ a u e. absurd (off a) }

  -- what is there is found where no prepare waits
  pub is_found : {doc : Doc} → FitsGet role risen image json key f g → IsActive role → get image.docs key ≡ Some doc → get image.pending key ≡ None → IsFound json g f.opaque doc
  is_found {doc} fits active there none = fits.found active (free risen image key none) doc there

  is_none : FitsGet role risen image json key f g → IsActive role → get image.docs key ≡ None → get image.pending key ≡ None → IsStatus f g status.KeyEnoent
  is_none fits active there none = fits.none active (free risen image key none) there

-- no vBucket was made
unmade_role : Some None ≡ Some (Some Active) → ⊥
unmade_role e = let z : None ≡ Some Active = cc in cc

-- the key 7 was set again
newer_there : get (image_of (one_change ∷ newer ∷ [])).docs (7 ∷ []) ≡ Some newer_doc
newer_there = get-insert_same (image_of once).docs (7 ∷ []) newer_doc

-- ---- transcripts

pub found : LawfulTo once (gets 0 7) (finds (first_doc 1 (8 ∷ [])) ∷ [])
unfolding spelling frames_in first_frame frame_of read_of frame_row shape_fault request_of requirement_of
found = (λ z. kv_answer (reply_frame (found_answer true 9 (first_doc 1 (8 ∷ [])))) refl refl refl refl refl refl (get_found (first_doc 1 (8 ∷ [])) refl (free 0 (image_of once) (7 ∷ []) (seven_pending (first_doc 1 (8 ∷ [])) (7 ∷ []))) (seven_there (first_doc 1 (8 ∷ []))) (found_so false 9 (first_doc 1 (8 ∷ [])))) (inr (inr (tt, refl))), tt)

pub value : LawfulTo once (gets 0 7) (finds (first_doc 1 (9 ∷ [])) ∷ []) → ⊥
unfolding spelling frames_in first_frame frame_of read_of frame_row shape_fault request_of requirement_of
value l = let (g, s, fits) = asked_so (l.0 refl) refl refl refl in let e : ◌≡◌ {A = ℕ} 9 8 = ap (byte_at 28) (found_bytes (is_found fits refl (seven_there (first_doc 1 (8 ∷ []))) (seven_pending (first_doc 1 (8 ∷ [])) (7 ∷ []))) s) in omega (arith, e)

pub cas : LawfulTo once (gets 0 7) (finds (first_doc 2 (8 ∷ [])) ∷ []) → ⊥
unfolding spelling frames_in first_frame frame_of read_of frame_row shape_fault request_of requirement_of
cas l = let (g, s, fits) = asked_so (l.0 refl) refl refl refl in let e : ◌≡◌ {A = ℕ} 2 1 = ap (byte_at 23) (found_bytes (is_found fits refl (seven_there (first_doc 1 (8 ∷ []))) (seven_pending (first_doc 1 (8 ∷ [])) (7 ∷ []))) s) in omega (arith, e)

pub key : LawfulTo once (gets 0 9) (finds (first_doc 1 (8 ∷ [])) ∷ []) → ⊥
unfolding spelling frames_in first_frame frame_of read_of frame_row shape_fault request_of requirement_of
key l = let (g, s, fits) = asked_so (l.0 refl) refl refl refl in let e : ◌≡◌ {A = ℕ} 0 1 = ap (byte_at 7) (bare_bytes (is_none fits refl (nine_none (first_doc 1 (8 ∷ []))) (seven_pending (first_doc 1 (8 ∷ [])) (9 ∷ []))) s) in omega (arith, e)

pub newest : LawfulTo (one_change ∷ newer ∷ []) (gets 0 7) (finds newer_doc ∷ [])
unfolding spelling frames_in first_frame frame_of read_of frame_row shape_fault request_of requirement_of
newest = (λ z. kv_answer (reply_frame (found_answer true 9 newer_doc)) refl refl refl refl refl refl (get_found newer_doc refl (free 0 (image_of (one_change ∷ newer ∷ [])) (7 ∷ []) (twice_pending 1 (7 ∷ []) 2 (7 ∷ []) (7 ∷ []))) newer_there (found_so false 9 newer_doc)) (inr (inr (tt, refl))), tt)

pub older : LawfulTo (one_change ∷ newer ∷ []) (gets 0 7) (finds (first_doc 1 (8 ∷ [])) ∷ []) → ⊥
unfolding spelling frames_in first_frame frame_of read_of frame_row shape_fault request_of requirement_of
older l = let (g, s, fits) = asked_so (l.0 refl) refl refl refl in let e : ◌≡◌ {A = ℕ} 1 2 = ap (byte_at 23) (found_bytes (is_found fits refl newer_there (twice_pending 1 (7 ∷ []) 2 (7 ∷ []) (7 ∷ []))) s) in omega (arith, e)

pub prepare : LawfulTo pending (gets 0 9) (finds (first_doc 2 (6 ∷ [])) ∷ []) → ⊥
unfolding spelling frames_in first_frame frame_of read_of frame_row shape_fault request_of requirement_of
prepare l = let (g, s, fits) = asked_so (l.0 refl) refl refl refl in let e : ◌≡◌ {A = ℕ} 0 1 = ap (byte_at 7) (bare_bytes (fits.none refl (nine_own 0 (omega arith)) (nine_none (first_doc 1 (8 ∷ [])))) s) in omega (arith, e)

pub beside_prepare : LawfulTo pending (gets 0 9) (says GET status.KeyEnoent ∷ [])
unfolding spelling frames_in first_frame frame_of read_of frame_row shape_fault request_of requirement_of
beside_prepare = (λ z. kv_answer (reply_frame (bare_answer GET status.KeyEnoent 9)) refl refl refl refl refl refl (get_none refl (nine_own 0 (omega arith)) (nine_none (first_doc 1 (8 ∷ []))) (bare_so GET 9 status.KeyEnoent)) (inr (inr (tt, refl))), tt)

pub nothing_undone : LawfulTo once (gets 0 7) (says GET status.SyncWriteReCommitInProgress ∷ []) → ⊥
unfolding spelling frames_in first_frame frame_of read_of frame_row shape_fault request_of requirement_of
nothing_undone l = let (g, s, fits) = asked_so (l.0 refl) refl refl refl in let e : ◌≡◌ {A = ℕ} 164 0 = ap (byte_at 7) (found_bytes (is_found fits refl (seven_there (first_doc 1 (8 ∷ []))) (seven_pending (first_doc 1 (8 ∷ [])) (7 ∷ []))) s) in omega (arith, e)

pub none : LawfulTo once (gets 0 9) (says GET status.KeyEnoent ∷ [])
unfolding spelling frames_in first_frame frame_of read_of frame_row shape_fault request_of requirement_of
none = (λ z. kv_answer (reply_frame (bare_answer GET status.KeyEnoent 9)) refl refl refl refl refl refl (get_none refl (free 0 (image_of once) (9 ∷ []) (seven_pending (first_doc 1 (8 ∷ [])) (9 ∷ []))) (nine_none (first_doc 1 (8 ∷ []))) (bare_so GET 9 status.KeyEnoent)) (inr (inr (tt, refl))), tt)

pub not_none : LawfulTo once (gets 0 7) (says GET status.KeyEnoent ∷ []) → ⊥
unfolding spelling frames_in first_frame frame_of read_of frame_row shape_fault request_of requirement_of
not_none l = let (g, s, fits) = asked_so (l.0 refl) refl refl refl in let e : ◌≡◌ {A = ℕ} 1 0 = ap (byte_at 7) (found_bytes (is_found fits refl (seven_there (first_doc 1 (8 ∷ []))) (seven_pending (first_doc 1 (8 ∷ [])) (7 ∷ []))) s) in omega (arith, e)

pub away : LawfulAway once (gets 0 7) (says GET status.NotMyVbucket ∷ [])
unfolding spelling frames_in first_frame frame_of read_of frame_row shape_fault request_of requirement_of
away = (λ z. kv_answer (reply_frame (bare_answer GET status.NotMyVbucket 9)) refl refl refl refl refl refl (get_away no_active (bare_so GET 9 status.NotMyVbucket)) (inr (inr (tt, refl))), tt)

pub away_found : LawfulAway once (gets 0 7) (finds (first_doc 1 (8 ∷ [])) ∷ []) → ⊥
unfolding spelling frames_in first_frame frame_of read_of frame_row shape_fault request_of requirement_of
away_found l = let (g, s, fits) = asked_so (l.0 refl) refl refl refl in let e : ◌≡◌ {A = ℕ} 0 7 = ap (byte_at 7) (bare_bytes (fits.away no_active) s) in omega (arith, e)

pub unmade : LawfulUnmade (gets 0 7) (says GET status.NotMyVbucket ∷ [])
unfolding spelling frames_in first_frame frame_of read_of frame_row shape_fault request_of requirement_of
unmade = (λ z. kv_answer (reply_frame (bare_answer GET status.NotMyVbucket 9)) refl refl refl refl refl refl (get_away unmade_role (bare_so GET 9 status.NotMyVbucket)) (inr (inr (tt, refl))), tt)

pub unmade_found : LawfulUnmade (gets 0 7) (finds (first_doc 1 (8 ∷ [])) ∷ []) → ⊥
unfolding spelling frames_in first_frame frame_of read_of frame_row shape_fault request_of requirement_of
unmade_found l = let (g, s, fits) = asked_so (l.0 refl) refl refl refl in let e : ◌≡◌ {A = ℕ} 0 7 = ap (byte_at 7) (bare_bytes (fits.away unmade_role) s) in omega (arith, e)

pub active : LawfulTo once (gets 0 7) (says GET status.NotMyVbucket ∷ []) → ⊥
unfolding spelling frames_in first_frame frame_of read_of frame_row shape_fault request_of requirement_of
active l = let (g, s, fits) = asked_so (l.0 refl) refl refl refl in let e : ◌≡◌ {A = ℕ} 7 0 = ap (byte_at 7) (found_bytes (is_found fits refl (seven_there (first_doc 1 (8 ∷ []))) (seven_pending (first_doc 1 (8 ∷ [])) (7 ∷ []))) s) in omega (arith, e)

pub raw : LawfulTo json_once (gets 0 7) (finds_raw json_doc ∷ [])
unfolding spelling frames_in first_frame frame_of read_of frame_row shape_fault request_of requirement_of
raw = (λ z. kv_answer (reply_frame (found_answer false 9 json_doc)) refl refl refl refl refl refl (get_found json_doc refl (free 0 (image_of json_once) (7 ∷ []) (seven_pending json_doc (7 ∷ []))) (seven_there json_doc) (found_so false 9 json_doc)) (inr (inr (tt, refl))), tt)

pub raw_json : LawfulTo json_once (gets 0 7) (finds json_doc ∷ []) → ⊥
unfolding spelling frames_in first_frame frame_of read_of frame_row shape_fault request_of requirement_of
raw_json l = let (g, s, fits) = asked_so (l.0 refl) refl refl refl in let e : ◌≡◌ {A = ℕ} 1 0 = ap (byte_at 5) (found_bytes (is_found fits refl (seven_there json_doc) (seven_pending json_doc (7 ∷ []))) s) in omega (arith, e)

pub json : LawfulBy for_json json_once (gets 0 7) (finds json_doc ∷ [])
unfolding spelling frames_in first_frame frame_of read_of frame_row shape_fault request_of requirement_of
json = (λ z. kv_answer (reply_frame (found_answer true 9 json_doc)) refl refl refl refl refl refl (get_found json_doc refl (free 0 (image_of json_once) (7 ∷ []) (seven_pending json_doc (7 ∷ []))) (seven_there json_doc) (found_so true 9 json_doc)) (inr (inr (tt, refl))), tt)

pub json_raw : LawfulBy for_json json_once (gets 0 7) (finds_raw json_doc ∷ []) → ⊥
unfolding spelling frames_in first_frame frame_of read_of frame_row shape_fault request_of requirement_of
json_raw l = let (g, s, fits) = asked_so (l.0 refl) refl refl refl in let e : ◌≡◌ {A = ℕ} 0 1 = ap (byte_at 5) (found_bytes (is_found fits refl (seven_there json_doc) (seven_pending json_doc (7 ∷ []))) s) in omega (arith, e)

pub behind_set : LawfulTo once (gets 0 7) (makes newer ∷ finds newer_doc ∷ []) → ⊥
unfolding spelling frames_in first_frame frame_of read_of frame_row shape_fault request_of requirement_of
behind_set l =
    let (g, s, fits, calm) = asked_calm (l.1.0 refl) refl refl refl in
    ⊎_elim (λ o. let z : ◌≡◌ {A = Result KvRequest Status} (Ok (request.Get (7 ∷ []))) (Ok (request.Write o.0 None)) = o.1 in cc) (λ d. ⊎_elim (λ k. let z : false ≡ true = k.1.0 in cc) (λ k. let z : true ≡ false = k.1 in cc) d) calm
