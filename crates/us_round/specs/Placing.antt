-- What the workers of a crew are given to place claims.
use Rattle.std.specs.Prelude.{◌≡◌, ℕ, List, slice_get, Some}
use Rattle.std.specs.List.{AllByRecursion}
use Rattle.us_split.specs.Claims.{Claim, IsClaimOn}
use Rattle.us_channel.specs.Channels.{Built, build_on, filled_part}

-- these claims may be placed on a channel
abbrev pub CanPlace : Built → List Claim → Type 0
CanPlace b claims = AllByRecursion (IsClaimOn b.channel) claims

-- the channel once they are
abbrev pub placed : Built → List Claim → Built
placed b claims = build_on claims (filled_part b)

-- Items that were made of channels: where a channel may be built, what is to be placed may be, as the item of its number says.
abbrev pub AreLaden : {C I : Type 0} → (ℕ → C → Type 0) → (I → Type 0) → List C → List I → Type 0
AreLaden can_build can_place channels items =
    (place : ℕ) (item : _) → slice_get items place ≡ Some item →
    (channel : _) × (slice_get channels place ≡ Some channel) × (can_build place channel → can_place item)
