use Rattle.std.proofs.Common.{sym}
use Rattle.us_channel.proofs.MapLemmas.{board_map}
use Rattle.us_channel.proofs.mapping.map_of.Goals as goal

pub from_parts-requires : goal.from_parts-requires
from_parts-requires c =
    rw c.deref.ensures.value
    (board_map c.head_of-head.result c.args.channel.now c.args.board.now c.len-len.result c.args.sids.now
    c.in_ok-elements.elements.items c.in_ok-pendings.pendings.items c.head_of-head.ensures.lawful
    c.len-len.ensures.known (sym c.len-len.ensures.value) c.in_ok-elements.ensures.follow c.in_ok-elements.ensures.few
    c.requires.few c.requires.bits c.in_ok-elements.ensures.value c.in_ok-pendings.ensures
    c.in_ok-elements.ensures.other c.in_ok-elements.ensures.fields)
