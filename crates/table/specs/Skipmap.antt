-- The answers of the search as those of the definitions.
use Rattle.std.specs.Prelude.{ℕ, ◌<◌, ◌≡◌, List, get_or, Result, IfOk}
use Rattle.image.specs.Limits.{levels}
use Rattle.image.specs.Nodes.{link_place}
use Rattle.image.specs.Search.{OnEqual as OnEqualIs, to_stop, to_go_down, to_pass, Turn as TurnIs, onward, halt, below, Found, hit, ends, searched}
use Rattle.table.specs.declared.refusals.Fault.{Fault}
use Rattle.table.specs.declared.skipmap.OnEqual.{OnEqual}
use Rattle.table.specs.declared.skipmap.OnEqual.TheVariants.{Stop, GoDown, Pass}
use Rattle.table.specs.declared.skipmap.Turn.{Turn}
use Rattle.table.specs.declared.skipmap.Turn.TheVariants.{Onward, Halt, Below}
use Rattle.table.specs.declared.skipmap.Spot.{Spot}
use Rattle.table.specs.declared.skipmap.Spot.TheVariants.{Hit, Ends}
use Rattle.table.specs.declared.skipmap.Searched.{Searched}
use Rattle.table.specs.Refusals.{read_as}

-- what a search does on equality
abbrev pub mode_of : OnEqual → OnEqualIs
mode_of Stop = to_stop
mode_of GoDown = to_go_down
mode_of Pass = to_pass

-- what a look says
abbrev pub turn_is : Turn → TurnIs
turn_is (Onward at) = onward
turn_is Halt = halt
turn_is Below = below

-- a node that is passed has its links at this place
abbrev pub LinksFrom : ℕ → Turn → Type 0
LinksFrom links (Onward at) = at ≡ links
LinksFrom links Halt = Unit
LinksFrom links Below = Unit

-- the same of a look that could be made
abbrev pub TurnLinks : ℕ → Result Turn Fault → Type 0
TurnLinks links r = IfOk r (LinksFrom links)

-- where a search ends, after so many looks, with the node that it passed last at each level
abbrev pub spot_is : Spot → ℕ → List ℕ → Found
spot_is (Hit node) looks prev = hit node looks
spot_is (Ends before after) looks prev = ends before after looks prev

-- a search that ends between two nodes has gone down at every level; these are the places of the links of the nodes that it passed last
abbrev pub AllPlaces : List ℕ → List ℕ → List ℕ → Spot → Type 0
AllPlaces xs prev places (Hit node) = Unit
AllPlaces xs prev places (Ends before after) = (l : ℕ) → l < levels → get_or places l 0 ≡ link_place xs (get_or prev l 0) l

-- what a search answers: the definition's answer, with the places of the links of the nodes that it records there
pub record Searches (xs : List ℕ) (mode : OnEqualIs) (k : List ℕ) (s : ℕ) (r : Result Searched Fault) : Type 0 where
  pub prev : List ℕ
  pub exact : read_as (λ f. spot_is f.spot f.looks prev) r ≡ searched xs mode k s
  pub placed : IfOk r (λ f. AllPlaces xs prev f.places f.spot)
