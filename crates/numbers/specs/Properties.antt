-- Property numbers: the row of each property in the table, and 0 for any other name. Assumes nothing.
use Rattle.std.specs.Prelude.{ℕ, List, [], ◌∷◌, ◌++◌}

-- a name that is not in the table
abbrev pub other : ℕ
other = 0

abbrev pub begin : ℕ
begin = 1

abbrev pub end : ℕ
end = 2

abbrev pub source : ℕ
source = 3

abbrev pub kind : ℕ
kind = 4

abbrev pub xml : ℕ
xml = 5

abbrev pub fn : ℕ
fn = 6

abbrev pub n : ℕ
n = 7

abbrev pub nickname : ℕ
nickname = 8

abbrev pub photo : ℕ
photo = 9

abbrev pub bday : ℕ
bday = 10

abbrev pub anniversary : ℕ
anniversary = 11

abbrev pub gender : ℕ
gender = 12

abbrev pub adr : ℕ
adr = 13

abbrev pub tel : ℕ
tel = 14

abbrev pub email : ℕ
email = 15

abbrev pub impp : ℕ
impp = 16

abbrev pub lang : ℕ
lang = 17

abbrev pub tz : ℕ
tz = 18

abbrev pub geo : ℕ
geo = 19

abbrev pub title : ℕ
title = 20

abbrev pub role : ℕ
role = 21

abbrev pub logo : ℕ
logo = 22

abbrev pub org : ℕ
org = 23

abbrev pub member : ℕ
member = 24

abbrev pub related : ℕ
related = 25

abbrev pub categories : ℕ
categories = 26

abbrev pub note : ℕ
note = 27

abbrev pub prodid : ℕ
prodid = 28

abbrev pub rev : ℕ
rev = 29

abbrev pub sound : ℕ
sound = 30

abbrev pub uid : ℕ
uid = 31

abbrev pub clientpidmap : ℕ
clientpidmap = 32

abbrev pub url : ℕ
url = 33

abbrev pub version : ℕ
version = 34

abbrev pub key : ℕ
key = 35

abbrev pub fburl : ℕ
fburl = 36

abbrev pub caladruri : ℕ
caladruri = 37

abbrev pub caluri : ℕ
caluri = 38

-- how many rows edition one has, row 0 counted in
abbrev pub count : ℕ
count = 39

-- the rows that edition two adds
abbrev pub created : ℕ
created = 39

abbrev pub gramgender : ℕ
gramgender = 40

abbrev pub language : ℕ
language = 41

abbrev pub pronouns : ℕ
pronouns = 42

abbrev pub socialprofile : ℕ
socialprofile = 43

-- how many rows the table has, row 0 and those of edition two counted in
abbrev pub all : ℕ
all = 44

-- all of them
abbrev pub properties : List ℕ
properties =
    other ∷ begin ∷ end ∷ source ∷ kind ∷ xml ∷ fn ∷ n ∷ nickname ∷ photo ∷ bday ∷ anniversary ∷ gender ∷ adr ∷ tel ∷ email ∷ impp ∷ lang ∷ tz ∷ geo ∷ []
    ++ title ∷ role ∷ logo ∷ org ∷ member ∷ related ∷ categories ∷ note ∷ prodid ∷ rev ∷ sound ∷ uid ∷ clientpidmap ∷ url ∷ version ∷ key ∷ fburl ∷ []
    ++ caladruri ∷ caluri ∷ created ∷ gramgender ∷ language ∷ pronouns ∷ socialprofile ∷ []
