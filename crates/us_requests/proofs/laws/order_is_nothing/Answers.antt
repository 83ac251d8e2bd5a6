use Rattle.us_requests.proofs.CutLemmas.{any-order}
use Rattle.us_requests.proofs.laws.order_is_nothing.Goals as goal

pub returns : goal.returns
returns c = any-order
