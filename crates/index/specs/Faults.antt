-- What each refusal of an index says: its number, its detail and its layer.
-- A network's fault passes through whole.
use Rattle.std.specs.Prelude.{ℕ}
use Rattle.network.specs.Faults as network
use Rattle.index.specs.declared.fault.IndexFault.{IndexFault}
use Rattle.index.specs.declared.fault.IndexFault.TheVariants.{Network, TooLarge, TooShort, NoSuchSite, HubAlready, HubsFull, NoHub, SitesDiffer, NotBuilt, NoRoom, Unjoined}

abbrev pub number : IndexFault → ℕ
number (Network fault) = network.number fault
number (TooLarge size) = 1
number (TooShort length) = 1
number (NoSuchSite site) = 2
number (HubAlready site) = 6
number (HubsFull places) = 7
number (NoHub site) = 8
number (SitesDiffer sites) = 9
number NotBuilt = 10
number (NoRoom site) = 11
number Unjoined = 12

abbrev pub detail : IndexFault → ℕ
detail (Network fault) = network.detail fault
detail (TooLarge size) = size
detail (TooShort length) = length
detail (NoSuchSite site) = site
detail (HubAlready site) = site
detail (HubsFull places) = places
detail (NoHub site) = site
detail (SitesDiffer sites) = sites
detail NotBuilt = 0
detail (NoRoom site) = site
detail Unjoined = 0

abbrev pub layer : IndexFault → ℕ
layer (Network fault) = network.layer fault
layer (TooLarge size) = 2
layer (TooShort length) = 2
layer (NoSuchSite site) = 2
layer (HubAlready site) = 2
layer (HubsFull places) = 2
layer (NoHub site) = 2
layer (SitesDiffer sites) = 2
layer NotBuilt = 2
layer (NoRoom site) = 2
layer Unjoined = 2
