-- The table of the exponential over one octave, the rule of its entries, and the way from one to the next.
use Rattle.std.specs.Prelude.{◌≡◌, refl, Bool, ◌&&◌, List, [], ◌∷◌, ℕ, suc, ◌+◌, ◌-◌, ◌*◌, ◌/◌, ◌%◌, ◌^◌, ◌≤◌, ◌<◌, leb, get_or}
use Rattle.std.proofs.Common.{subst, suc-le-suc, mul_comm, mul-le-mul_left, mod-lt, lt_of_not-le, le_of_suc-le-suc, le_antisymm, le_trans, le_of_lt, le_of_eq, lt_irrefl, arith, leb→le, lit<}
use Rattle.std.proofs.Math.Nat.{pow-le-pow_left, pow-le-pow_right, div-le_of_le-mul}
use Rattle.std.proofs.Math.Facts.{and_yes}
use Rattle.quotients.specs.OfWhole.laws.Every.{at_each}

-- points of the table in an octave
abbrev pub points : ℕ
points = 256

-- steps from one point to the next
abbrev pub steps : ℕ
steps = 256

-- parts of an octave, in which positions count
abbrev pub parts : ℕ
parts = points * steps

-- binary places of an entry
abbrev pub places : ℕ
places = 30

-- the rule of the entry at j: the greatest t whose power is within 2^(places * points + j),
-- so that t is near 2^(places + j / points)
pub record IsEntry (j t : ℕ) : Type 0 where
  pub within : t ^ points ≤ 2 ^ (places * points + j)
  pub greatest : 2 ^ (places * points + j) < suc t ^ points

-- the entries at 0, 1, .., points
unfoldable pub entries : List ℕ
entries =
    1073741824 ∷ 1076653033 ∷ 1079572135 ∷ 1082499152 ∷ 1085434105 ∷ 1088377016 ∷ 1091327905 ∷ 1094286795 ∷
    1097253708 ∷ 1100228664 ∷ 1103211687 ∷ 1106202797 ∷ 1109202017 ∷ 1112209369 ∷ 1115224875 ∷ 1118248556 ∷
    1121280435 ∷ 1124320535 ∷ 1127368877 ∷ 1130425484 ∷ 1133490379 ∷ 1136563583 ∷ 1139645119 ∷ 1142735011 ∷
    1145833280 ∷ 1148939949 ∷ 1152055041 ∷ 1155178579 ∷ 1158310586 ∷ 1161451085 ∷ 1164600098 ∷ 1167757649 ∷
    1170923761 ∷ 1174098458 ∷ 1177281762 ∷ 1180473696 ∷ 1183674285 ∷ 1186883552 ∷ 1190101520 ∷ 1193328212 ∷
    1196563653 ∷ 1199807866 ∷ 1203060875 ∷ 1206322704 ∷ 1209593377 ∷ 1212872917 ∷ 1216161349 ∷ 1219458697 ∷
    1222764985 ∷ 1226080238 ∷ 1229404478 ∷ 1232737732 ∷ 1236080023 ∷ 1239431376 ∷ 1242791815 ∷ 1246161366 ∷
    1249540052 ∷ 1252927899 ∷ 1256324931 ∷ 1259731173 ∷ 1263146651 ∷ 1266571389 ∷ 1270005412 ∷ 1273448746 ∷
    1276901416 ∷ 1280363447 ∷ 1283834865 ∷ 1287315694 ∷ 1290805961 ∷ 1294305691 ∷ 1297814910 ∷ 1301333643 ∷
    1304861916 ∷ 1308399756 ∷ 1311947188 ∷ 1315504237 ∷ 1319070931 ∷ 1322647295 ∷ 1326233356 ∷ 1329829139 ∷
    1333434672 ∷ 1337049980 ∷ 1340675090 ∷ 1344310029 ∷ 1347954823 ∷ 1351609500 ∷ 1355274085 ∷ 1358948606 ∷
    1362633089 ∷ 1366327562 ∷ 1370032052 ∷ 1373746586 ∷ 1377471191 ∷ 1381205894 ∷ 1384950723 ∷ 1388705705 ∷
    1392470868 ∷ 1396246240 ∷ 1400031847 ∷ 1403827719 ∷ 1407633882 ∷ 1411450365 ∷ 1415277195 ∷ 1419114400 ∷
    1422962010 ∷ 1426820051 ∷ 1430688553 ∷ 1434567543 ∷ 1438457050 ∷ 1442357103 ∷ 1446267730 ∷ 1450188959 ∷
    1454120821 ∷ 1458063342 ∷ 1462016553 ∷ 1465980482 ∷ 1469955158 ∷ 1473940611 ∷ 1477936869 ∷ 1481943963 ∷
    1485961920 ∷ 1489990772 ∷ 1494030547 ∷ 1498081274 ∷ 1502142985 ∷ 1506215708 ∷ 1510299473 ∷ 1514394310 ∷
    1518500249 ∷ 1522617321 ∷ 1526745556 ∷ 1530884983 ∷ 1535035633 ∷ 1539197537 ∷ 1543370725 ∷ 1547555227 ∷
    1551751075 ∷ 1555958299 ∷ 1560176930 ∷ 1564406999 ∷ 1568648537 ∷ 1572901574 ∷ 1577166143 ∷ 1581442274 ∷
    1585729999 ∷ 1590029349 ∷ 1594340356 ∷ 1598663051 ∷ 1602997467 ∷ 1607343634 ∷ 1611701584 ∷ 1616071351 ∷
    1620452965 ∷ 1624846458 ∷ 1629251864 ∷ 1633669214 ∷ 1638098541 ∷ 1642539876 ∷ 1646993254 ∷ 1651458705 ∷
    1655936264 ∷ 1660425963 ∷ 1664927834 ∷ 1669441912 ∷ 1673968228 ∷ 1678506816 ∷ 1683057710 ∷ 1687620942 ∷
    1692196547 ∷ 1696784557 ∷ 1701385007 ∷ 1705997929 ∷ 1710623359 ∷ 1715261329 ∷ 1719911875 ∷ 1724575029 ∷
    1729250826 ∷ 1733939301 ∷ 1738640487 ∷ 1743354420 ∷ 1748081133 ∷ 1752820662 ∷ 1757573041 ∷ 1762338305 ∷
    1767116488 ∷ 1771907627 ∷ 1776711756 ∷ 1781528911 ∷ 1786359125 ∷ 1791202436 ∷ 1796058879 ∷ 1800928488 ∷
    1805811301 ∷ 1810707352 ∷ 1815616678 ∷ 1820539314 ∷ 1825475297 ∷ 1830424662 ∷ 1835387447 ∷ 1840363687 ∷
    1845353419 ∷ 1850356680 ∷ 1855373506 ∷ 1860403934 ∷ 1865448001 ∷ 1870505743 ∷ 1875577199 ∷ 1880662405 ∷
    1885761398 ∷ 1890874215 ∷ 1896000895 ∷ 1901141475 ∷ 1906295993 ∷ 1911464486 ∷ 1916646992 ∷ 1921843549 ∷
    1927054195 ∷ 1932278969 ∷ 1937517909 ∷ 1942771053 ∷ 1948038440 ∷ 1953320108 ∷ 1958616096 ∷ 1963926443 ∷
    1969251187 ∷ 1974590369 ∷ 1979944027 ∷ 1985312199 ∷ 1990694927 ∷ 1996092248 ∷ 2001504204 ∷ 2006930832 ∷
    2012372173 ∷ 2017828268 ∷ 2023299155 ∷ 2028784876 ∷ 2034285470 ∷ 2039800977 ∷ 2045331439 ∷ 2050876895 ∷
    2056437386 ∷ 2062012953 ∷ 2067603638 ∷ 2073209480 ∷ 2078830521 ∷ 2084466802 ∷ 2090118365 ∷ 2095785251 ∷
    2101467501 ∷ 2107165158 ∷ 2112878262 ∷ 2118606856 ∷ 2124350982 ∷ 2130110682 ∷ 2135885998 ∷ 2141676972 ∷
    2147483648 ∷
    []

-- t_j
unfoldable pub entry_of : ℕ → ℕ
unfolding entries
entry_of j = get_or entries j 0

-- the mantissa at the part f of an octave: from the point at or below f, its part of the way to the next,
-- rounded downward
abbrev pub mantissa_of : ℕ → ℕ
mantissa_of f = entry_of (f / steps) + (entry_of (suc (f / steps)) - entry_of (f / steps)) * (f % steps) / steps

-- the whole table's test
within_power : ℕ → Bool
within_power j = leb (entry_of j ^ points) (2 ^ (places * points + j))

beyond_power : ℕ → Bool
beyond_power j = leb (suc (2 ^ (places * points + j))) (suc (entry_of j) ^ points)

right : ℕ → Bool
right j = within_power j && beyond_power j

-- every entry follows the rule
pub rule : (j : ℕ) → j ≤ points → IsEntry j (entry_of j)
unfolding entries entry_of within_power beyond_power right
rule j h =
    let p = and_yes (within_power j) (beyond_power j) (at_each right (suc points) tt j (omega arith)) in
    record { within = leb→le _ _ p.0; greatest = leb→le _ _ p.1 }

-- what follows from the rule alone: between rules, one power is not above the other's next
between : (i j t u : ℕ) → i ≤ j → IsEntry i t → IsEntry j u → t ≤ u
between i j t u h p q = le_of_suc-le-suc (lt_of_not-le (λ (l : suc u ≤ t). absurd_power l))
  where
    absurd_power : suc u ≤ t → ⊥
    absurd_power l =
        lt_irrefl (suc u ^ points)
        (le_trans (suc-le-suc (pow-le-pow_left l points))
        (le_trans (suc-le-suc p.within)
        (le_trans (suc-le-suc (pow-le-pow_right (lit< tt) (omega arith))) q.greatest)))

-- so no other number follows the rule
pub entry_only : (j t : ℕ) → j ≤ points → IsEntry j t → t ≡ entry_of j
entry_only j t h p =
    le_antisymm (between j j t (entry_of j) (omega arith) p (rule j h))
    (between j j (entry_of j) t (omega arith) (rule j h) p)

-- the entries rise from 2^places to twice that
pub entry_rises : (j : ℕ) → j < points → entry_of j ≤ entry_of (suc j)
entry_rises j h =
    between j (suc j) (entry_of j) (entry_of (suc j)) (omega arith) (rule j (omega arith)) (rule (suc j) h)

first : entry_of 0 ≡ 2 ^ places
unfolding entry_of entries
first = refl

last : entry_of points ≡ 2 ^ suc places
unfolding entry_of entries
last = refl

pub entry_low : (j : ℕ) → j ≤ points → 2 ^ places ≤ entry_of j
entry_low j h =
    let l = between 0 j (entry_of 0) (entry_of j) (omega arith) (rule 0 (omega arith)) (rule j h) in
    subst (λ (t : ℕ). t ≤ entry_of j) first l

pub entry_high : (j : ℕ) → j ≤ points → entry_of j ≤ 2 ^ suc places
entry_high j h =
    let l = between j points (entry_of j) (entry_of points) h (rule j h) (rule points (omega arith)) in
    subst (λ (t : ℕ). entry_of j ≤ t) last l

-- no more than the whole way from an entry to the next
pub way_within : (d f : ℕ) → d * (f % steps) / steps ≤ d
way_within d f =
    div-le_of_le-mul steps (le_trans (mul-le-mul_left d (le_of_lt (mod-lt f (lit< tt)))) (le_of_eq (mul_comm d steps)))

-- so that a mantissa keeps within the first entry and the last
pub record IsMantissa (m : ℕ) : Type 0 where
  pub low : 2 ^ places ≤ m
  pub high : m ≤ 2 ^ suc places

pub mantissa_size : (f : ℕ) → f < parts → IsMantissa (mantissa_of f)
mantissa_size f h =
    let j = f / steps in
    let k : j < points = omega arith in
    let l = entry_low j (omega arith) in
    let r = entry_rises j k in
    let t = entry_high (suc j) k in
    let w = way_within (entry_of (suc j) - entry_of j) f in
    record { low = omega arith; high = omega arith }
