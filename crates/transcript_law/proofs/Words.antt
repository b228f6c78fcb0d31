-- the words of the proofs: what most of them import of the crates below and of the definitions
pub use Rattle.branch_model.proofs.Branches.{branch_grow, hist_here, hist_rises, hist_there, grow_below, hist_grow_other, hist_grow_own}
pub use Rattle.branch_model.proofs.Holding.{HoldsAt, holds_fewer, holds_same, holds_empty, holds_push}
pub use Rattle.branch_model.proofs.Lasts.{in_filter}
pub use Rattle.branch_model.proofs.Lists.{rises_in, upto_down, upto_none, last_seq_le, rises_le}
pub use Rattle.branch_model.specs.Histories.{IsOf, StandsAs, last_seq}
pub use Rattle.branch_model.specs.Logs.{Ancestry, AtForks, IsFront, Traces, front, kept_to, uuid_of, with_entry, entry_for, upper}
pub use Rattle.branch_model.specs.Requests.{effective_se, effective_ss, fork_of, reach_of, request_of, rule, judged}
pub use Rattle.branch_model.specs.Snapshots.{Covers, HasLast}
pub use Rattle.branch_model.specs.Trees.{Branch, ForksBelow, IsNew, Shared, branch, grow, hist, longer}
pub use Rattle.client_session.specs.Serving.{PlainSession, ended_at, new_session}
unfoldable pub use Rattle.client_session.specs.Serving.{frame_handled, request_handled, bytes_handled, told}
pub use Rattle.cluster_model.proofs.Carrying.{at_le, kin_shared, start_cases}
pub use Rattle.transcript_law.proofs.invariant.Bounded.{SoundCluster}
pub use Rattle.transcript_law.proofs.invariant.Bounding.{keeps, tells, continues, rolls, shows, start_sound}
pub use Rattle.cluster_model.specs.Clusters.{Cluster, Feed, Flight, Leads, Linked, May, Member, Move, above, adopted, answered, flight_end, flight_from, fresh, ground, happens, made, marked_by, member_reach, put, received, Forks, owned}
pub use Rattle.dcp_consumer.specs.Dialing.{name_request, open_request, sync_request, member_name}
unfoldable pub use Rattle.dcp_consumer.specs.Dialing.{requests}
pub use Rattle.dcp_consumer.specs.Machine.{PlainConsumer, over_why, with_handshake}
unfoldable pub use Rattle.dcp_producer.specs.Ending.{end_closed}
pub use Rattle.dcp_producer.specs.Ending.{ended_in, ended_by, streams_closed}
pub use Rattle.dcp_producer.specs.Producers.{PlainProducer, PlainStream, Served, begun, is_sync}
pub use Rattle.dcp_producer.specs.Frames.{STATE_CHANGED, act_message, item_line, past_item}
pub use Rattle.dcp_producer.specs.Pulling.{pulled, why_of}
unfoldable pub use Rattle.dcp_producer.specs.Pulling.{frames_put}
unfoldable pub use Rattle.dcp_producer.specs.Serving.{frame_answered, stream_request, status_sent, stream_answered}
pub use Rattle.dcp_producer.specs.Serving.{refuse, stream_verdict, with_frame, ask_verdict, controlled, controlled_as, high_of_reply, is_name, opened_unless, read_answered, request_refusal, verdict_with}
pub use Rattle.dcp_producer.specs.declared.desk.Handshake.{Handshake}
pub use Rattle.dcp_producer.specs.declared.halt.Halt.{Halt}
pub use Rattle.mcbp_dcp.proofs.DcpBack.{message_back}
pub use Rattle.mcbp_dcp.proofs.DcpLens.{length_dcp}
pub use Rattle.mcbp_dcp.specs.DcpFrames.{IsSpelled, IsVerdict, verdict_frame}
unfoldable pub use Rattle.mcbp_dcp.specs.DcpFrames.{dcp_frame}
pub use Rattle.mcbp_dcp.specs.DcpLaws.{AskInRange, EntryInRange, InRange, VerdictInRange, dcp_len}
pub use Rattle.mcbp_dcp.specs.declared.message.DcpMsg.{DcpMsg}
pub use Rattle.mcbp_dcp.specs.declared.message.StreamVerdict.{StreamVerdict}
pub use Rattle.mcbp_frame.proofs.Pieces.{pieces_of_frames}
unfoldable pub use Rattle.mcbp_frame.specs.Cutting.{frames_in, left_of}
pub use Rattle.mcbp_frame.specs.Cutting.{front_fault}
pub use Rattle.mcbp_frame.specs.Frames.{body_size}
pub use Rattle.mcbp_frame.specs.Spelling.{Readable}
unfoldable pub use Rattle.mcbp_frame.specs.Spelling.{spelling}
pub use Rattle.mcbp_frame.specs.Streams.{AreBytes}
pub use Rattle.mcbp_frame.specs.declared.frame.Frame.{Frame}
pub use Rattle.mcbp_frame.specs.declared.frame.FrameFault.{FrameFault}
pub use Rattle.mcbp_frame.specs.declared.frame.TheConstants.{RESPONSE}
pub use Rattle.mcbp_kv.specs.Fitting.{WriteFits}
pub use Rattle.mcbp_kv.specs.declared.request.KvRequest.{KvRequest}
pub use Rattle.node_core.specs.Admin.{AdminResult, admin_call, admin_replied, admin_result, role_changed, role_result}
pub use Rattle.node_core.specs.Calls.{branch_lines, left_open, named_ask}
pub use Rattle.node_core.specs.Dials.{DialResult, dial_bytes, over_for, with_consumer, with_line}
unfoldable pub use Rattle.node_core.specs.Dials.{call_made, frame_taken, frames_taken, go_on_with, roll_back}
pub use Rattle.node_core.specs.Peers.{PeerResult, peer_result, pull_result, PullResult, peer_pulled}
pub use Rattle.node_core.specs.Shown.{document_line, image_lines, prepare_line}
pub use Rattle.node_core.specs.declared.admin.AdminCall.{AdminCall}
pub use Rattle.node_core.specs.declared.node.TheConstants.{MAX_VBS}
pub use Rattle.node_world.specs.Cuts.{cut_off, links_ended, own_link, link_ended, unlinked}
pub use Rattle.node_world.specs.Links.{LinkResult, PlainLink, consumer_node, dial_of, down_at, down_result, feeds, link_number, moved_len, peer_of, producer_node, pump_at, pump_result, up_at, up_result, ask_of, is_taken, moved, new_link, up_moved, with_up}
pub use Rattle.node_world.specs.Nodes.{uuid_causes}
pub use Rattle.node_world.specs.Turns.{role_causes, admin_line, called, called_at, no_node, promote_causes, role_outcome, line_of_call, turn_causes, turn_step, turned_after, turned_if, with_ended, call_told, is_in_role, promote_step, after_cuts}
pub use Rattle.node_world.specs.World.{Outcome, PlainNode, PlainWorld, ask_in, at_end, branch_of_line, bytes_at, client_at, clock_at, cut_outcome, done, empty_node, empty_world, fed, bytes_if, first_cause, groups, groups_from, hang_at, is_one_of, link_causes, link_outcome, node_causes, node_outcome, on_link, on_node, refusal, refused_or, replica_at, replica_causes, vb_at, vb_causes, vb_in, verb_step, with_branches, with_client, with_dialed, with_link, with_links, with_node_at, with_states, with_vb, link_step, node_step, vb_step}
unfoldable pub use Rattle.node_world.specs.World.{world_step}
pub use Rattle.node_world.specs.Worlds.{node_if, shelf_in}
pub use Rattle.node_world.specs.declared.told.Told.{Told}
pub use Rattle.script_text.proofs.Fitting.{lines_fit}
pub use Rattle.script_text.specs.Fitting.{ScriptFits, VerbFits}
pub use Rattle.script_text.specs.Scripts.{IsScript}
pub use Rattle.script_text.specs.declared.verb.ScriptLine.{ScriptLine}
pub use Rattle.script_text.specs.declared.verb.Verb.{Verb}
pub use Rattle.script_text.specs.declared.verb.VbVerb.{VbVerb}
pub use Rattle.script_text.specs.declared.verb.NodeVerb.{NodeVerb}
pub use Rattle.script_text.specs.declared.verb.LinkVerb.{LinkVerb}
pub use Rattle.script_text.specs.declared.verb.ClientVerb.{ClientVerb}
pub use Rattle.std.proofs.Common.{Bool, List, [], ap, append-nil, append_assoc, arith, cond, drop, false, fold, inl, inr, length, map, min, refl, subst, suc, sym, take, true, zero, ℕ, ⊎_elim, ◌++◌, ◌+◌, ◌<◌, ◌∙◌, ◌∷◌, ◌≡◌, ◌≤◌, take-append-drop, ◌≢◌}
pub use Rattle.std.proofs.Math.Bool.{or-true}
pub use Rattle.std.proofs.Math.Seq.{drop-nil}
pub use Rattle.std.proofs.lemmas.Bool.Decides.{nat_tests}
pub use Rattle.std.proofs.lemmas.Bool.{and_parts, cases_lt, eq-eqb, eqb-false, eqb-true, ltb-false, ltb-true, ne_eqb}
pub use Rattle.std.proofs.lemmas.Fmt.{length-decimal-le_succ}
pub use Rattle.std.proofs.lemmas.List.Elements.{All-append, All-cons, All-head, All-nil, All-push, All-tail, All-weaker, filter-append}
pub use Rattle.std.proofs.lemmas.List.Folds.{concat-append, find-append, list_any-append}
pub use Rattle.std.proofs.lemmas.List.{drop-append-le, length-append, map-append}
pub use Rattle.std.specs.Cmp.Lexicographic.{nat_list_cmp_total}
pub use Rattle.std.specs.List.{All, concat, filter, flat_map, list_any}
pub use Rattle.std.specs.Option.{option_map, option_or}
pub use Rattle.std.specs.Prelude.{Err, None, Ok, Option, Result, Some, if◌then◌else◌, is_some, nat_le, nat_lt, not, slice_get, ◌&&◌, ◌==◌, ◌^◌, ◌||◌, ◌⊎◌, codes, decimal, option_and_then}
pub use Rattle.transcript_law.specs.Chronicles.{Begun, Chronicle, Dial, Granted, ItemLine, after_branch, after_change, after_dial, after_end, after_line, after_lines, after_range, after_role, after_verb, changes_between, empty_chronicle, finished, granted, held_more, is_dial_for, is_dial_of, parent_branch, past_mark, past_next, stream_branch, with_at, with_begun, with_changed, with_item, with_stream, after_ask, after_seal, more_items, with_id}
pub use Rattle.transcript_law.specs.Contrary.{dialed_anew, inside_dead, inside_got, inside_shown, link_over, log_forgotten, strange}
pub use Rattle.transcript_law.specs.Followers.{after_both, ask_within, both_sent_lines, first_item_line, granted_inside, log_of, made_from, marker_line, next_change, two_followed, after_adopted, after_got, all_active, based, changed_in, empty_in}
pub use Rattle.transcript_law.specs.Lawfulness.{due_image, IsDialed, IsIfKnown, LawfulAcknowledged, LawfulCounted, IsMarker, IsNextItem, IsWholeIf, Lawful, LawfulAsk, LawfulChange, LawfulFrom, LawfulGot, LawfulGroups, LawfulItem, LawfulLine, LawfulMark, LawfulRange, LawfulRole, LawfulVerdict, item_of_change, known_history, shown_lines, stream_history, LawfulShow, LawfulShown, SharesFront, SharesWith, ShownLine, meant_end, branch_image}
pub use Rattle.transcript_law.specs.Bound.{IsAnswered}
pub use Rattle.transcript_law.specs.LineAnswers.{LawfulAnswer, frames_in_lines, IsCarriedOut, IsMoved, IsPumped, IsSealed, PutsAsTold, is_frame}
pub use Rattle.transcript_law.specs.Plainness.{EndsWith, IsLogged, IsPromotion, IsTurn, RefusedLinesKeep, ShowsAreShown, TurnsAreTold}
pub use Rattle.transcript_law.specs.Prefixes.{AreFollowed, FollowsBranch, known_of, world_of}
pub use Rattle.transcript_law.specs.Rollbacks.{after_dead, empty_shown, log_lines, made_log, after_active, stream_end_lines, forgotten, rest_lines, rolled_lines, sent_back}
pub use Rattle.transcript_law.specs.Transcripts.{active_vb_lines, both_on_one, change_line, first_doc, forked_at, one_change, one_set, value_lines, one_set_groups, dead_and_show, set_dead_and_show, set_one, sets_groups, show_alone, shown_active, shown_after_change, shown_dead, two_vbs, two_vbs_groups}
pub use Rattle.vb_calls.proofs.JobReadings.{after_job_bind, after_job_fold, after_job_lift, job_stepped}
pub use Rattle.vb_calls.proofs.Readings.{after_bind, after_fold, stepped}
pub use Rattle.vb_calls.specs.Following.{is_answerable, is_follower, is_next, marked_vb, marker_fits, with_received_change}
pub use Rattle.vb_calls.specs.Jobs.{Ended, Job, after_job, bind_job, lift}
pub use Rattle.vb_calls.specs.Plain.{Plain, new_vb, plain_step}
pub use Rattle.vb_calls.specs.Programs.{Call, Done, More, Stop, Turn, after, go_on, repeated, Prog, bind, each}
pub use Rattle.vb_calls.specs.Roles.{ending_reply, in_role, is_role, led, parent_of, promote_refusal, promoted, stream_ids, seal_row, turn_row}
pub use Rattle.vb_calls.specs.Spans.{Spans, all_spans, is_whole, last_at, no_spans, span_of, with_change, with_seal, own_joined}
pub use Rattle.vb_calls.specs.State.{complete_position, doc_at, is_active, newest_branch, quiet_reply, refusal_reply, image_in}
pub use Rattle.vb_calls.specs.States.{States, call_at, with_vb_at}
pub use Rattle.vb_calls.specs.Streams.{end_span, need_of, new_stream, open_refusal, stream_at, take_from, take_to, close_row, without_stream, first_reason, id_refusal, is_ranged, judged_open, open_outcome}
pub use Rattle.vb_calls.specs.Writes.{growth, new_cas, new_rev, write_change, written_doc, act_of}
pub use Rattle.vb_calls.specs.declared.calls.VbAnswer.{VbAnswer}
pub use Rattle.vb_calls.specs.declared.calls.VbCall.{VbCall}
pub use Rattle.vb_calls.specs.declared.calls.VbReply.{VbReply}
pub use Rattle.vb_calls.specs.declared.span.Origin.TheVariants.{Own, Received}
pub use Rattle.vb_calls.specs.declared.span.Span.{Span}
pub use Rattle.vb_calls.specs.declared.stream.Stream.{Stream}
pub use Rattle.vb_types.specs.Histories.{IsIn, Rises, plain_act, upto}
pub use Rattle.vb_types.specs.Images.{Picture, image_of, is_older, nothing, applied}
pub use Rattle.vb_types.specs.Keys.{key_cmp}
pub use Rattle.vb_types.specs.Limits.{IsKey, IsValue}
pub use Rattle.vb_types.specs.declared.change.Act.{Act}
pub use Rattle.vb_types.specs.declared.change.Change.{Change}
pub use Rattle.vb_types.specs.declared.change.Pend.{Pend}
pub use Rattle.vb_types.specs.declared.doc.Doc.{Doc}
pub use Rattle.vb_events.specs.declared.event.Answer.{Answer}
pub use Rattle.vb_types.specs.declared.stream.AskAnswer.{AskAnswer}
pub use Rattle.vb_events.specs.declared.event.Cause.{Cause}
pub use Rattle.vb_events.specs.declared.event.EndReason.{EndReason}
pub use Rattle.vb_events.specs.declared.event.Event.{Event}
pub use Rattle.vb_events.specs.declared.event.Group.{Group}
pub use Rattle.vb_events.specs.declared.event.StreamName.{StreamName}
pub use Rattle.vb_events.specs.declared.event.Why.{Why}
pub use Rattle.vb_types.specs.declared.position.Position.{Position}
pub use Rattle.vb_types.specs.declared.position.TheConstants.{MAX_SEQ}
pub use Rattle.vb_types.specs.declared.role.LogEntry.{LogEntry}
pub use Rattle.vb_types.specs.declared.role.Role.{Role}
pub use Rattle.vb_types.specs.declared.status.Status.{Status}
pub use Rattle.vb_types.specs.declared.stream.Snapshot.{Snapshot}
pub use Rattle.vb_types.specs.declared.stream.StreamAsk.{StreamAsk}
pub use Rattle.vb_types.specs.declared.stream.Verdict.TheVariants.{Continue, Roll}
pub use Rattle.vb_types.specs.declared.stream.Verdict.{Verdict}
pub use Rattle.vb_types.specs.declared.write.Op.{Op}
pub use Rattle.vb_types.specs.declared.write.Write.{Write}
pub use Rattle.vbucket.proofs.Grown.{Grown, own_grown}
pub use Rattle.vbucket.proofs.Soundness.{starts, stays}
pub use Rattle.vbucket.proofs.Taking.{take_snapshots}
pub use Rattle.vbucket.proofs.Wholes.{wholes}
pub use Rattle.vbucket.specs.Laws.{Sound, StartsSound, StaysSound}
pub use Rattle.vbucket.specs.Rows.{row_at, row_out, row_put}
pub use Rattle.vbucket.specs.Takes.{TakesSnapshots}
