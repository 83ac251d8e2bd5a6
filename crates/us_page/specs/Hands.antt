-- What a hand owns: the box of a run, or nothing at null.
use base.Fml.{Fml, feq}
use denote.RawPtr.{Ptr, null_ptr}
use Rattle.std.specs.Prelude.{Option, None, Some}
use Rattle.std.specs.Coded.{Coded, coded_option}
use Rattle.std.specs.Global.{Box, Global}
use Rattle.std.specs.contracts.impls.GlobalAllocator.TheImpl.{ghosts}
use Rattle.std.specs.Box.Ownership.{box_owns}
use Rattle.us_page.specs.declared.loose.Loose.{Loose}
use Rattle.us_page.specs.Runs.{Run}
use Rattle.us_page.specs.contracts.runs.Run.{the_row}

abbrev pub boxed_run : Box Run → Run
boxed_run b = b.value

abbrev pub loose_run : Loose Run Global → Run
loose_run l = l.value

abbrev pub hand_owns : Global → Ptr → Option Run → Fml
hand_owns alloc at None = feq Ptr at null_ptr
hand_owns alloc at (Some run) = box_owns (ghosts.dealloc_token alloc) the_row at run

-- how the logic stores what a hand holds
abbrev pub held_coded : Coded (Option Run)
held_coded = coded_option the_row.coded
