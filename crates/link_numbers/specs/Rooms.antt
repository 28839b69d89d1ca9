-- Links as numbers in a room, and links from one, whatever it holds. Assumes nothing.
use Rattle.std.specs.Prelude.{List, [], ◌∷◌, ◌++◌, map, ℕ, ◌+◌, ◌*◌, ◌%◌, get_or}
use Rattle.points.specs.Sets.{from}
use Rattle.plan.specs.Limits.{most_points}
use Rattle.links.specs.declared.End.{End}
use Rattle.links.specs.declared.Links.{Links}

-- the numbers that f gives for each of some things, one after the other
unfoldable pub numbers_of : {A : Type 0} → (A → List ℕ) → List A → List ℕ
numbers_of f [] = []
numbers_of f (x ∷ xs) = f x ++ numbers_of f xs

-- ---- links: how many points, which are watched, then for each point the first point, the shortest and the longest of the link that ends there

abbrev pub links_length : ℕ
links_length = 2 + 3 * most_points

abbrev pub end_numbers : End → List ℕ
end_numbers e = e.from ∷ e.shortest ∷ e.longest ∷ []

abbrev pub links_room : Links → List ℕ
links_room l = (l.points ∷ l.watched ∷ []) ++ numbers_of end_numbers l.ends

-- and the links that a room holds: of a number that is no byte, its lowest byte counts
abbrev pub end_in : ℕ → ℕ → ℕ → End
end_in from shortest longest = record { from = from % 256; shortest = shortest; longest = longest }

abbrev pub end_at : List ℕ → ℕ → End
end_at s q = end_in (get_or s (2 + 3 * q) 0) (get_or s (2 + 3 * q + 1) 0) (get_or s (2 + 3 * q + 2) 0)

abbrev pub links_in : List ℕ → Links
links_in s = record { points = get_or s 0 0; watched = get_or s 1 0; ends = map (end_at s) (from 0 most_points) }
