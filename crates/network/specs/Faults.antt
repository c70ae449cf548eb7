-- What each refusal of a network says: its number, its detail and its layer.
use Rattle.std.specs.Prelude.{ℕ}
use Rattle.network.specs.declared.fault.NetworkFault.{NetworkFault}
use Rattle.network.specs.declared.fault.NetworkFault.TheVariants.{TooLarge, TooShort, NoSuchSite, TooHeavy, LinksUsed, NoSuchLink}

abbrev pub number : NetworkFault → ℕ
number (TooLarge size) = 1
number (TooShort length) = 1
number (NoSuchSite site) = 2
number (TooHeavy weight) = 3
number (LinksUsed places) = 4
number (NoSuchLink link) = 5

abbrev pub detail : NetworkFault → ℕ
detail (TooLarge size) = size
detail (TooShort length) = length
detail (NoSuchSite site) = site
detail (TooHeavy weight) = weight
detail (LinksUsed places) = places
detail (NoSuchLink link) = link

-- every refusal of a network is of the first layer
abbrev pub layer : NetworkFault → ℕ
layer fault = 1
