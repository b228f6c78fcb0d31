-- what OPEN and CONTROL set for clients' streams, judged by hand
use Rattle.std.proofs.Common.{[], refl, true, false, ◌++◌}
use Rattle.std.specs.Prelude.{codes, replicate}
unfoldable use Rattle.mcbp_dcp.specs.DcpFrames.{dcp_frame}
unfoldable use Rattle.mcbp_dcp.specs.Messages.{read_of}
unfoldable use Rattle.mcbp_dcp.specs.Rows.{frame_row}
unfoldable use Rattle.mcbp_dcp.specs.Shapes.{shape_fault}
unfoldable use Rattle.mcbp_frame.specs.Cutting.{frames_in}
unfoldable use Rattle.mcbp_frame.specs.Frames.{first_frame, frame_of}
unfoldable use Rattle.mcbp_frame.specs.Spelling.{spelling}
use Rattle.transcript_law.specs.ClientAskRows.{AsksSync, naming, opening, requesting, syncing}
use Rattle.transcript_law.specs.ClientStreamRows.{all_changes}

pub both : AsksSync (opening 1 ++ syncing (codes "true") ++ naming (codes "x") ++ requesting 0 all_changes) true
unfolding spelling dcp_frame frames_in first_frame frame_of read_of frame_row shape_fault
both = (_, refl, refl)

pub neither : AsksSync (opening 1 ++ requesting 0 all_changes) false
unfolding spelling dcp_frame frames_in first_frame frame_of read_of frame_row shape_fault
neither = (_, refl, refl)

pub sync : AsksSync (opening 1 ++ syncing (codes "true") ++ requesting 0 all_changes) false
unfolding spelling dcp_frame frames_in first_frame frame_of read_of frame_row shape_fault
sync = (_, refl, refl)

pub name : AsksSync (opening 1 ++ naming (codes "x") ++ requesting 0 all_changes) false
unfolding spelling dcp_frame frames_in first_frame frame_of read_of frame_row shape_fault
name = (_, refl, refl)

pub early : AsksSync (syncing (codes "true") ++ opening 1 ++ naming (codes "x") ++ requesting 0 all_changes) false
unfolding spelling dcp_frame frames_in first_frame frame_of read_of frame_row shape_fault
early = (_, refl, refl)

pub late : AsksSync (opening 1 ++ naming (codes "x") ++ requesting 0 all_changes ++ syncing (codes "true")) false
unfolding spelling dcp_frame frames_in first_frame frame_of read_of frame_row shape_fault
late = (_, refl, refl)

pub back : AsksSync (opening 1 ++ syncing (codes "true") ++ naming (codes "x") ++ syncing (codes "false") ++ requesting 0 all_changes) false
unfolding spelling dcp_frame frames_in first_frame frame_of read_of frame_row shape_fault
back = (_, refl, refl)

pub empty : AsksSync (opening 1 ++ syncing (codes "true") ++ naming [] ++ requesting 0 all_changes) false
unfolding spelling dcp_frame frames_in first_frame frame_of read_of frame_row shape_fault
empty = (_, refl, refl)

pub word : AsksSync (opening 1 ++ syncing (codes "yes") ++ naming (codes "x") ++ requesting 0 all_changes) false
unfolding spelling dcp_frame frames_in first_frame frame_of read_of frame_row shape_fault
word = (_, refl, refl)

pub consumer : AsksSync (opening 0 ++ syncing (codes "true") ++ naming (codes "x") ++ requesting 0 all_changes) false
unfolding spelling dcp_frame frames_in first_frame frame_of read_of frame_row shape_fault
consumer = (_, refl, refl)

pub second : AsksSync (opening 1 ++ syncing (codes "true") ++ naming (codes "x") ++ opening 1 ++ requesting 0 all_changes) true
unfolding spelling dcp_frame frames_in first_frame frame_of read_of frame_row shape_fault
second = (_, refl, refl)

pub flags : AsksSync (opening 3 ++ syncing (codes "true") ++ naming (codes "x") ++ requesting 0 all_changes) false
unfolding spelling dcp_frame frames_in first_frame frame_of read_of frame_row shape_fault
flags = (_, refl, refl)

pub long : AsksSync (opening 1 ++ syncing (codes "true") ++ naming (replicate 251 120) ++ requesting 0 all_changes) false
unfolding spelling dcp_frame frames_in first_frame frame_of read_of frame_row shape_fault
long = (_, refl, refl)
