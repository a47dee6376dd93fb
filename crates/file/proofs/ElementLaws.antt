-- A law of an element's prices: a value has as many as the table has places, those that it lacks included.
use Rattle.std.proofs.Common.{◌≡◌, ℕ, List, length}
use Rattle.rules.specs.Sizes.{price_places}
use Rattle.rules.proofs.Ranges.{length-list_to}
use Rattle.file.specs.Element.{price_at, prices_in}

pub length_prices : (value : List ℕ) → length (prices_in value) ≡ price_places
unfolding prices_in
length_prices value = length-list_to (price_at value) price_places
